use native.Mathlib.Omega.{arith}
use Rattle.std.proofs.Common.{rules, tests}
use Rattle.std.proofs.lemmas.Iterator.{YieldsList-from_range}
use Rattle.std.proofs.lemmas.Iterator.Search.{all_from_yields_List}
use Prim.Native.Nat.{ℕ}
use mathlib.Core.Path.{ap, ◌∙◌}
use mathlib.Core.Bool.{not}
use borrow.Author.Tests.{eq-eqb}
use lib.ListN.{get_elem?}
use Rattle.valid_scope.specs.Letters.{letters_of}
use Rattle.valid_scope.specs.variables.Free.{fits}
use Rattle.valid_scope.specs.variables.Uses.{use_at}
use Rattle.valid_scope.proofs.variables.Laws.{fit_all}
use Rattle.valid_scope.proofs.Laws.{formed_not, formed_by}
use Rattle.valid_scope.proofs.formed.Goals as goal

pub returns-then-top-ne255 : goal.returns-then-top-ne255
returns-then-top-ne255 c =
    let a = c.args in
    let top = c.at-top.result in
    let at_k = λ (k : ℕ). use_at a.uses.now k a.r in
    let letters = letters_of a.parts.now a.w in
    formed_by _ _ _ _ _ c.requires.1 c.requires.0 letters c.at-top.ensures.0 c.if-top-ne255.true
    (all_from_yields_List (λ (k : ℕ). fits (at_k k) (get_elem? letters k)) _ _ _ c.all.ensures.ran (YieldsList-from_range 0 top top (cc) (omega arith)) (λ x b q k. search (rules, tests))
    ∙ fit_all letters at_k top)

pub returns-else-top-ne255 : goal.returns-else-top-ne255
returns-else-top-ne255 c = ap not (eq-eqb _ _ c.if-top-ne255.false) ∙ formed_not _ _ _ _ _ c.requires.1 c.requires.0 _ c.at-top.ensures.0 c.if-top-ne255.false
