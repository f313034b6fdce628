-- Laws of an operand at a place of a line.
use Rattle.std.proofs.Common.{◌≡◌, ℕ, ◌+◌, ◌-◌, List, length, take, drop, sym, ap, ◌∙◌}
use Rattle.std.specs.Prelude.{Option as Maybe, Some, None}
use mathlib.Core.Option.{Option}
use lib.Seq.{sets}
use Rattle.syntax.specs.Syntax.{Operand}
use Rattle.text.specs.Grammar.{operand}
use Rattle.text_lines.specs.Parts.{field_in, InLine}
use Rattle.text_lines.proofs.InLine.{field_part}
use Rattle.text_fields.specs.declared.plain_operands.OperandRead.{OperandRead}
use Rattle.text_fields.specs.declared.plain_operands.Placed.{Placed}
use Rattle.text_fields.specs.plain_operands.Answers.{answer_of, args_of, OperandIs, PlainIs}
use Rattle.text_fields.specs.Answers.{OperandAt}

pub plain_operand : (s : List ℕ) (at : ℕ) (l : List ℕ) (to : ℕ) (x : Placed) → PlainIs s at x → OperandAt s at l to (Some x) l
unfolding answer_of args_of
plain_operand s at l to x g = record {
  read = record {
    answer = ap {B = Maybe OperandRead} Some g.read ∙ sym (ap answer_of g.operand_is);
    stored = sym (ap (λ (o : Option Operand). sets l to (args_of o)) g.operand_is);
  };
  ends = λ y e. let q : x ≡ y = cc in ap (λ (z : Placed). z.next) (sym q) ∙ g.ends;
}

module _ (s : List ℕ) (at : ℕ) (l : List ℕ) (to : ℕ) (p : InLine s at) (e : ℕ) (is : e ≡ at + length (field_in s at)) (after : List ℕ) where
  pub any_at : (o : OperandRead) → OperandIs (operand (take (e - at) (drop at s))) l to (Some o) after → OperandAt s at l to (Some (record { read = o; next = e })) after
  any_at o g = record {
    read = rw (← (field_part s at e p is)) g;
    ends = λ y h. let q : ◌≡◌ {A = Placed} (record { read = o; next = e }) y = cc in ap (λ (z : Placed). z.next) (sym q) ∙ is;
  }

  pub none_at : OperandIs (operand (take (e - at) (drop at s))) l to None after → OperandAt s at l to None after
  none_at g = record { read = rw (← (field_part s at e p is)) g; ends = λ y h. absurd (cc) }
