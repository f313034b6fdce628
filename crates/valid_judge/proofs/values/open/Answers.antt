use Rattle.types_rows.specs.declared.Held.{Held}
use Prim.Native.Nat.{ℕ, suc, ◌+◌, ◌*◌, ◌<◌, ◌≤◌}
use native.Mathlib.Omega.{arith}
use mathlib.Core.Path.{◌≡◌, refl, ap, sym, ◌∙◌}
use mathlib.Core.List.{[], ◌∷◌, ◌++◌}
use lib.ListN.{length}
use Rattle.std.specs.Prelude.{Err, MatchResult}
use Rattle.syntax.proofs.Least.{least}
use Rattle.types.specs.Types.{junk, nil}
use Rattle.faults.specs.Numbers.{number}
use Rattle.valid.specs.PassThree.{operand}
use Rattle.valid_context.specs.Context.{sp_of}
use Rattle.valid_context.specs.Told.{answer}
use Rattle.valid_context.proofs.Results.{answer_fault, some_fault, told_ok}
use Rattle.valid_typing.proofs.operands.Filling.{ten}
use Rattle.valid_judge.specs.heap.Forms.{held}
use Rattle.valid_judge.specs.Image.{after}
use Rattle.valid_judge.proofs.Results.{told_pick, at_ok}
use Rattle.valid_judge.proofs.stack.Laws.{cond_zero}
use Rattle.valid_judge.proofs.values.Laws.{row_small, env_in, env_of}
use Rattle.valid_judge.proofs.values.Opening.{opens_none, opens, context_more, opened_to, room_few}
use Rattle.image.specs.Sections.{part, slot_section}
use Rattle.valid_typing.specs.Image.{read_at, letters_in}
use Rattle.valid_judge.proofs.values.open.Goals as goal

pub operand-t-requires : goal.operand-t-requires
operand-t-requires c = (c.requires.0, c.requires.1, c.requires.2, c.requires.3.few)

pub inside-requires : goal.inside-requires
unfolding part
inside-requires c = (c.requires.0.ready, row_small c.requires.0.ready.few _ _ c.operand-t.result c.operand-t.ensures.1)

pub has_room-requires : goal.has_room-requires
has_room-requires c = omega (arith, c.requires.3.hidden, c.requires.3.few)

pub returns-in_err-i : goal.returns-in_err-i
unfolding part
returns-in_err-i c =
    let e : c.from_residual.result ≡ Err c.in_err-i.field-0.0 = grind arith in
    let F = c.in_err-i.field-0.0 in
    rw e (record {
      told = λ P σ m h k g. opens_none P _ _ _ _ c.has_room.result _ _ (number F) _ (c.has_room.ensures _)
          (c.inside.ensures.0 _ (operand P _ _ _ _) k (env_in _ _ _ c.operand-t.result c.operand-t.ensures.1 g.regs_in) (c.operand-t.ensures.0 P _ h ten) ∙ told_pick _ junk c.inside.result)
          c.holds_or.ensures c.in_err-i.ensures.0 (held nil nil) (some_fault F) ∙ answer_fault F _;
      goes = tt;
    })

pub set_register-requires : goal.set_register-requires
set_register-requires c =
    let k = c.requires.0.ready.few in
    let i = at_ok (λ h. (h.row ≤ c.args.c.rows + 1) × MatchResult c.operand-t.result (λ k. h.env ≡ k.env) (λ f. ⊥)) c.in_ok-i.ensures.1.1 c.inside.ensures.1 in
    (c.requires.3.registers, omega (arith, i.0), omega (arith, c.requires.3.few))

pub returns-in_err-set_register : goal.returns-in_err-set_register
unfolding part least
returns-in_err-set_register c =
    let a = c.args in
    let E = a.envs.now in
    let i : Held = c.in_ok-i.i in
    let ok = c.in_ok-i.ensures.1 in
    let b = at_ok (λ h. (h.row ≤ a.c.rows + 1) × MatchResult c.operand-t.result (λ k. h.env ≡ k.env) (λ f. ⊥)) ok.1 c.inside.ensures.1 in
    let T = read_at a.p a.image.now a.c.rows (E ++ i.env ∷ []) in
    let q2 : 2 * length E + 1 ≡ suc (2 * length E) = omega arith in
    let room = cond_zero c.has_room.result 6 (sym c.holds_or.ensures ∙ ok.0) in
    let few : length E < 64 = let m = room_few a.w (slot_section a.p a.image.now) (c.has_room.ensures _) room in omega (arith, c.requires.3.hidden) in
    let e : c.from_residual-in_err-set_register.result ≡ Err c.in_err-set_register.field-0.0 = grind arith in
    let F = c.in_err-set_register.field-0.0 in
    rw e (record {
      told = λ P σ m h k g. opens P _ _ _ _ c.has_room.result _ 0 0 _ (c.has_room.ensures _)
          (c.inside.ensures.0 _ (operand P _ _ _ _) k (env_in _ _ _ c.operand-t.result c.operand-t.ensures.1 g.regs_in) (c.operand-t.ensures.0 P _ h ten) ∙ told_ok _ ok.1)
          c.holds_or.ensures (ap (λ (x : ℕ). least x 0) (sym ok.0)) (number F) _ (held nil nil) refl
          (context_more E i.env k (env_of i.env _ c.operand-t.result b.1 (env_in _ _ _ c.operand-t.result c.operand-t.ensures.1 g.regs_in)) _ _ _ _ σ m g)
          (rw q2 at (c.in_err-set_register.ensures.0 T P (letters_in a.p a.image.now a.w) (sp_of T σ m)) ∙ sym (answer_fault F (held nil nil))) ∙ answer_fault F _;
      goes = tt;
    })

pub returns : goal.returns
unfolding part after least answer
returns c =
    let a = c.args in
    let E = a.envs.now in
    let i : Held = c.in_ok-i.i in
    let ok = c.in_ok-i.ensures.1 in
    let b = at_ok (λ h. (h.row ≤ a.c.rows + 1) × MatchResult c.operand-t.result (λ k. h.env ≡ k.env) (λ f. ⊥)) ok.1 c.inside.ensures.1 in
    let T = read_at a.p a.image.now a.c.rows (E ++ i.env ∷ []) in
    let q2 : 2 * length E + 1 ≡ suc (2 * length E) = omega arith in
    let room = cond_zero c.has_room.result 6 (sym c.holds_or.ensures ∙ ok.0) in
    let few : length E < 64 = let m = room_few a.w (slot_section a.p a.image.now) (c.has_room.ensures _) room in omega (arith, c.requires.3.hidden) in
    record {
      told = λ P σ m h k g. opens P _ _ _ _ c.has_room.result _ 0 0 _ (c.has_room.ensures _)
          (c.inside.ensures.0 _ (operand P _ _ _ _) k (env_in _ _ _ c.operand-t.result c.operand-t.ensures.1 g.regs_in) (c.operand-t.ensures.0 P _ h ten) ∙ told_ok _ ok.1)
          c.holds_or.ensures (ap (λ (x : ℕ). least x 0) (sym ok.0)) 0 _ _ refl
          (context_more E i.env k (env_of i.env _ c.operand-t.result b.1 (env_in _ _ _ c.operand-t.result c.operand-t.ensures.1 g.regs_in)) _ _ _ _ σ m g)
          (rw q2 at (c.in_ok-set_register.ensures.0 T P (letters_in a.p a.image.now a.w) (sp_of T σ m)));
      goes = λ k g. opened_to E i.env k (env_of i.env _ c.operand-t.result b.1 (env_in _ _ _ c.operand-t.result c.operand-t.ensures.1 g)) _ _ few g (λ b u v. c.set_register.ensures.1 b (omega arith) v);
    }
