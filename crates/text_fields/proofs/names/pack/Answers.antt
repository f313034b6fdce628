use Rattle.std.proofs.Common.{◌≡◌, ℕ, ◌+◌, ◌-◌, ◌<◌, length, drop, sym, ap, arith}
use native.Mathlib.Nat.{le_refl}
use Rattle.text_fields.specs.names.Pieces.{packed}
use Rattle.text_fields.proofs.names.Names.{Small, packed_all, packed_more, packed_fits}
use Rattle.text_fields.proofs.names.pack.Goals as goal

pub loop-i-init : goal.loop-i-init
loop-i-init c = sym (packed_all c.args.f.now (length c.args.f.now) (le_refl (length c.args.f.now)))

pub overflow_mul-k : goal.overflow_mul-k
overflow_mul-k c =
    let s : Small c.args.f.now = λ j. omega (arith, c.type_inv.f j) in
    omega (arith, packed_fits c.args.f.now c.loop-i.i s c.requires c.loop-i-test.true)

pub overflow_add-k : goal.overflow_add-k
overflow_add-k c =
    let s : Small c.args.f.now = λ j. omega (arith, c.type_inv.f j) in
    omega (arith, packed_fits c.args.f.now c.loop-i.i s c.requires c.loop-i-test.true, c.from.ensures, s (c.loop-i.i - 1))

pub loop-i-preserved : goal.loop-i-preserved
loop-i-preserved c =
    let f = c.args.f.now in
    let h : c.loop-i.i - 1 < length f = omega arith in
    let e : c.loop-i.i - 1 + 1 ≡ c.loop-i.i = omega arith in
    let q : packed (drop (c.loop-i.i - 1 + 1) f) ≡ packed (drop c.loop-i.i f) = ap (λ (j : ℕ). packed (drop j f)) e in
    omega (arith, packed_more f (c.loop-i.i - 1) h, c.from.ensures)
