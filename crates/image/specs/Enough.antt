-- Working memory that is lent for a call, by its lengths.
use Rattle.std.specs.Prelude.{ℕ, ◌≡◌, Bool, false, ◌&&◌, leb}

-- an image, numbers and a plan are long enough to start and continue every text
unfoldable pub enough : ℕ → ℕ → ℕ → Bool
enough image numbers plan = leb 161694 image && leb 16400 numbers && leb 8208 plan

-- with work, they are long enough to check every text
unfoldable pub enough_to_check : ℕ → ℕ → ℕ → ℕ → Bool
enough_to_check image numbers plan work = enough image numbers plan && leb 8192 work

-- what is too short is left as it was
abbrev pub Left : {A : Type 0} → Bool → A → A → Type 0
Left long before after = long ≡ false → after ≡ before
