use mathlib.Core.Path.{refl}
use native.Mathlib.Omega.{arith}
use Rattle.types_rows.proofs.item_counts.Counts.{filling_first, filling_low, filling_count, filling_small, filling_next, filling_last}
use Rattle.types_rows.proofs.item_counts.count_items.Goals as goal

pub loop-r-init : goal.loop-r-init
loop-r-init c = λ parts h. filling_first _ parts _

pub overflow_cast-rows : goal.overflow_cast-rows
overflow_cast-rows c =
    let ps = c.requires.2.0 in
    let fit = c.requires.2.1 in
    let f = c.loop-r.invariant ps fit in
    let n = c.count_row-count.ensures ps (filling_low _ ps _ _ _ f _ refl) in
    let s = filling_small _ ps _ _ _ f _ (omega arith) fit (filling_count _ ps _ _ _ f _ _ refl n) in
    omega arith

pub loop-r-preserved : goal.loop-r-preserved
loop-r-preserved c =
    λ ps fit. let f = c.loop-r.invariant ps fit in
    let n = c.count_row-count.ensures ps (filling_low _ ps _ _ _ f _ refl) in
    filling_next _ ps _ _ _ f c.count_row-count.result _ (omega arith) (search) (filling_count _ ps _ _ _ f _ c.count_row-count.result refl n) refl

pub returns : goal.returns
returns c = λ ps fit. filling_last _ ps _ _ _ (c.loop-r.invariant ps fit) (omega arith) (search)
