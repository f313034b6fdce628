use native.Mathlib.Omega.{arith}
use borrow.Author.Tests.{lt-ltb, le-ltb}
use Rattle.valid_scope.proofs.entry.block_fault.Goals.{else-first-via-then-first+else-not-is_entry, else-first-via-else-first}
use Rattle.valid_scope.proofs.entry.Laws.{link_ok, code_low, code_in, counted_stack, other_fault, block_unbound, block_unfit, block_rest, entry_first, entry_later}
use Rattle.valid_scope.proofs.entry.block_fault.Goals as goal

pub returns-in_default : goal.returns-in_default
returns-in_default c =
    λ xs. other_fault _ _ _ _ _ c.link-h.ensures c.read_value.ensures.0 _ xs c.in_default.not-Code

pub formed-requires : goal.formed-requires
formed-requires c =
    ((code_in _ c.args.parts.now _ _ _ c.link-h.ensures c.read_value.ensures.0 c.in-Code.is c.read_value.ensures.1).0, search)

pub is_entry-requires : goal.is_entry-requires
is_entry-requires c =
    let k = code_low _ c.args.parts.now c.args.n c.args.c _ c.link-h.ensures c.read_value.ensures.0 c.in-Code.is (search) in
    record { named = k.2; low = (link_ok _ _ _ c.link-h.ensures c.requires.0).0; lower = k.0; file = k.1; counted = counted_stack _ _ _ _ _ c.link-h.ensures c.read_value.ensures.0 c.in-Code.is (search) c.requires.2 }

pub item_count-requires : goal.item_count-requires
item_count-requires c =
    let k = code_low _ c.args.parts.now c.args.n c.args.c _ c.link-h.ensures c.read_value.ensures.0 c.in-Code.is (search) in
    let l = link_ok _ _ _ c.link-h.ensures c.requires.0 in
    omega (arith, k.0, l.0)

pub returns-then-not-formed : goal.returns-then-not-formed
returns-then-not-formed c =
    λ xs. block_unbound _ _ _ _ _ c.link-h.ensures c.read_value.ensures.0 c.in-Code.is c.read_value.ensures.1 _ _ xs c.formed.ensures c.requires.2 c.if-not-formed.true

pub returns-then-not-is_entry : goal.returns-then-not-is_entry
returns-then-not-is_entry c =
    λ xs. block_unfit _ _ _ _ _ c.link-h.ensures c.read_value.ensures.0 c.in-Code.is c.read_value.ensures.1 _ _ xs c.formed.ensures c.requires.2 _ c.if-not-formed.false (c.is_entry.ensures xs) c.if-first.true c.if-not-is_entry.true

pub returns-then-item_count-gt64 : goal.returns-then-item_count-gt64
returns-then-item_count-gt64 c =
    λ xs. block_rest _ _ _ _ _ c.link-h.ensures c.read_value.ensures.0 c.in-Code.is c.read_value.ensures.1 _ _ xs c.formed.ensures c.requires.2 c.if-not-formed.false (elim c.else-first.branch [
      | else-first-via-then-first+else-not-is_entry w ↦ entry_first _ (w.is_entry.ensures xs) w.if-not-is_entry.false
      | else-first-via-else-first w ↦ entry_later _ _ w.if-first.false
    ]) c.item_count.ensures.0 (rw (lt-ltb _ _ c.if-item_count-gt64.true))

pub returns-else-item_count-gt64 : goal.returns-else-item_count-gt64
returns-else-item_count-gt64 c =
    λ xs. block_rest _ _ _ _ _ c.link-h.ensures c.read_value.ensures.0 c.in-Code.is c.read_value.ensures.1 _ _ xs c.formed.ensures c.requires.2 c.if-not-formed.false (elim c.else-first.branch [
      | else-first-via-then-first+else-not-is_entry w ↦ entry_first _ (w.is_entry.ensures xs) w.if-not-is_entry.false
      | else-first-via-else-first w ↦ entry_later _ _ w.if-first.false
    ]) c.item_count.ensures.0 (rw (le-ltb _ _ c.if-item_count-gt64.false))
