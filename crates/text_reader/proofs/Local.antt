-- A reader that lies in a local of a body, at the lifetime κ of its text: its cell and what it owns, as `denote.Lend` lends them.
--     lies-there   the cell and what the reader owns, put together
--     taken-up     the other way, at the machine value that the reader has
-- Assumes `Logic`.
use Prim.Native.Nat.{ℕ}
use mathlib.Core.List.{List, [], ◌∷◌}
use seplogic.Ra.Ura.{Ura}
use base.Fraction.{full_share}
use mir.Syntax.{named, erased}
use mir.Val.{Val}
use base.Logic.{ent, sep}
use base.Fml.{Lft, fat, fsep}
use types.Logic.{Logic, sem}
use types.Kit.{‵, ◌$◌, ◌∵◌, !, qed, use1, fsplit, fjoin, fpick, fpack, done}
use denote.RattleType.{RattleType}
use denote.Laws.{Is, shows}
use denote.Memory.{mem, cell_at, part_of}
use denote.Ref.{NamedLft}
use denote.Struct.Laws as LL
use denote.Struct.Steps.{spelt}
use Rattle.text_reader.specs.declared.Reader.{Reader}
use Rattle.text_reader.specs.contracts.Reader as T
use Rattle.text_reader.proofs.Reader.TheLaws as T'

abbrev pub α : Lft → NamedLft
α κ = record { mir = named 1; lft = κ }

abbrev pub B : Lft → RattleType
B κ = T.the_row (α κ)

module _ {M : Type 1} {𝓤 : Ura M} (𝓛 : Logic 𝓤) (κ : Lft) (r : Reader) (l : ℕ) where
  open 𝓛 use {H}

  pub lies_there : (u : Val) → ent 𝓤 (sep 𝓤 (H.at full_share (T'.mir erased) l 0 u) (sem 𝓛 ((B κ).own_val r (u ∷ [])))) (sem 𝓛 ((mem (B κ)).own_at r l 0))
  unfolding part_of
  lies_there u =
      qed 𝓛 (‵ (fat full_share (T'.mir erased) l 0 u) ∷ ‵ ((B κ).own_val r (u ∷ [])) ∷ []) ∵
      use1 𝓛 (‵ (cell_at full_share (B κ).mir (u ∷ []) l 0)) (𝓛.laws.at_raw full_share (T'.mir erased) l 0 u) $ fjoin ! $
      fpack ! (List Val) (λ us. fsep (cell_at full_share (B κ).mir us l 0) ((B κ).own_val r us)) (u ∷ []) $ done !

  pub taken_up : ent 𝓤 (sem 𝓛 ((mem (B κ)).own_at r l 0)) (sep 𝓤 (H.at full_share (T'.mir erased) l 0 (T'.lowered r)) (sem 𝓛 ((B κ).own_val r (T'.lowered r ∷ []))))
  unfolding part_of
  taken_up =
      qed 𝓛 (‵ ((mem (B κ)).own_at r l 0) ∷ []) ∵ fpick ! (λ vs. fsplit ! $
      spelt ! (B κ) (Is (B κ)) (shows 𝓛 (B κ)) (LL.vals (T.the_type (α κ)) (T'.the_laws (α κ))) (LL.tells (T.the_type (α κ)) (T'.the_laws (α κ))) full_share r vs l 0 $
      use1 𝓛 (‵ (fat full_share (T'.mir erased) l 0 (T'.lowered r))) (𝓛.laws.raw_at full_share (T'.mir erased) l 0 (T'.lowered r)) $ done !)
