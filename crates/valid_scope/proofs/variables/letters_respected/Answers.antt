use native.Mathlib.Omega.{arith}
use Rattle.std.proofs.Common.{rules, tests}
use Rattle.std.proofs.lemmas.Iterator.{YieldsList-from_range}
use Rattle.std.proofs.lemmas.Iterator.Search.{all_from_yields_List}
use Prim.Native.Nat.{ℕ, ◌+◌}
use mathlib.Core.Path.{◌∙◌}
use mathlib.Core.List.{map}
use lib.ListN.{get_elem?}
use Rattle.tables.specs.Tables.{span, letter_of}
use Rattle.valid_scope.specs.variables.Free.{fits}
use Rattle.valid_scope.specs.variables.Uses.{parts_at, code_use}
use Rattle.valid_scope.proofs.variables.Laws.{fit_all, letters_from}
use Rattle.valid_scope.proofs.variables.letters_respected.Goals as goal

pub returns : goal.returns
returns c =
    let a = c.args in
    let q = c.at-q.result in
    let at_k = λ (k : ℕ). code_use a.uses.now a.s (parts_at a.parts.now a.p 8 0) k in
    let letters = map letter_of (span a.parts.now (a.p + 9) q) in
    letters_from a.parts.now a.p at_k c.at-q.ensures.0
    (all_from_yields_List (λ (k : ℕ). fits (at_k k) (get_elem? letters k)) _ _ _ c.all.ensures.ran (YieldsList-from_range 0 q q (cc) (omega arith)) (λ x b q k. search (rules, tests))
    ∙ fit_all letters at_k q)
