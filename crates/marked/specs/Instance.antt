-- T's two samples (crate marked's proofs/Instance.antt: the premises of demand 3 can be met).
use Rattle.std.specs.Prelude.{ℕ, List}
use Rattle.text.specs.Bytes.{bytes}

-- "41200" and "15600", T's samples
abbrev pub t_samples : List ℕ
t_samples = bytes "41200\n15600\n"
