use native.Mathlib.Omega.{arith}
use borrow.Author.Rules.{rules}
use Rattle.valid_judge.proofs.plain_form.Goals.{in_default-via-then-x-lt13, in_default-via-else-x-lt13+else-x-lt17+else-x-lt21}
use Rattle.valid_judge.proofs.plain_form.Goals as goal

pub item_form-requires : goal.item_form-requires
item_form-requires c =
    (c.requires.0, c.requires.1, c.requires.2, record { code = c.requires.3.code; from = search; to = search rules })

pub heap_form-requires : goal.heap_form-requires
heap_form-requires c =
    let x = c.requires.3 in (
      c.requires.0,
      record { few = c.requires.2.few; registers = c.requires.2.registers },
      record {
        code = x.code;
        from = x.from;
        halt = λ h. elim c.in_default.branch [
          | in_default-via-then-x-lt13 w ↦ omega (arith, x.no_malloc, x.no_jump)
          | in_default-via-else-x-lt13+else-x-lt17+else-x-lt21 w ↦ omega (arith, x.no_malloc, x.no_jump)
        ];
        no_unpack = x.no_unpack;
      },
    )
