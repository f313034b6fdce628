use native.Mathlib.Omega.{arith}
use Prim.Native.Nat.{ℕ, ◌*◌}
use Rattle.types_rows.specs.declared.Held.{Held}
use mathlib.Core.Path.{◌≡◌, ap, sym, ◌∙◌}
use lib.ListN.{length}
use Rattle.std.specs.Prelude.{Ok, Err}
use Rattle.faults.specs.Numbers.{refusal_number}
use Rattle.types.specs.Types.{nil}
use Rattle.valid_context.specs.Context.{context_of}
use Rattle.valid_context.specs.Told.{answer}
use Rattle.valid_context.proofs.Results.{told_number, told_ok}
use Rattle.valid_typing.specs.Image.{read_at}
use Rattle.valid_judge.specs.through.Forms.{parted, Passed}
use Rattle.valid_judge.proofs.Results.{is_zero, not_zero, stopped, pick, told_pick, link_number, at_ok}
use Rattle.valid_judge.proofs.stack.Laws.{count_read}
use Rattle.valid_judge.proofs.through.Laws.{store_none, stored, written}
use Rattle.image.specs.Sections.{part, shared_section, slot_section}
use Rattle.valid_judge.proofs.through.store_through.Goals as goal

pub pass_through-b-requires : goal.pass_through-b-requires
unfolding part
pass_through-b-requires c = (
  record { ready = c.requires.0.ready; few = c.requires.2.few; room = c.requires.0.room },
  record { flat = c.requires.1.flat; room = c.requires.1.room },
  record { link_in = c.link_at-u.ensures.1; link_env = c.link_at-u.ensures.2 },
)

pub returns-in_err-b : goal.returns-in_err-b
unfolding part
returns-in_err-b c =
    let a = c.args in
    let l = a.image.now in
    let T = read_at a.p l a.n a.envs.now in
    let e : c.from_residual.result ≡ Err c.in_err-b.field-0.0 = grind arith in
    let Γ = context_of T a.regs.now a.sp.now a.depth in
    let g = parted (shared_section a.p l) (slot_section a.p l) a.n a.envs.now a.sp.now a.depth c.pass_through-b.new.work in
    let y = pick g (nil, nil) c.pass_through-b.result in
    rw e (
      λ P q. store_none P _ T a.regs.now a.sp.now a.depth a.x.pointer a.x.item a.x.source a.x.row c.link_at-u.result (refusal_number c.formed_row-formed.result) _ _ (refusal_number c.pass_through-b.result) _ y.0 y.1
          (c.formed_row-formed.ensures P q ∙ told_number tt c.formed_row-formed.result) (c.link_at-u.ensures.0 _ _ _ c.requires.0.ready)
          (c.pass_through-b.ensures.0 P _ q (c.link_at-u.ensures.0 _ _ _ c.requires.0.ready) ∙ told_pick g (nil, nil) c.pass_through-b.result)
          (c.holds_or-known.ensures ∙ link_number 8 c.link_at-u.result.link) c.and_give.ensures.0 c.and_give-2.ensures.0 Γ (not_zero c.in_err-b.was) ∙ stopped Γ c.in_err-b.was,
      λ k. k,
    )

pub set_item-requires : goal.set_item-requires
unfolding part
set_item-requires c =
    let a = c.args in
    let l = a.image.now in
    let b = c.in_ok-b.b in
    let i = at_ok (λ (h : Held). (refusal_number c.holds_or-known.result ≡ 0) × (c.pass_through-b.result ≡ Ok h)) c.in_ok-b.ensures.1.1 c.and_give.ensures.1 in
    let q = at_ok (λ (h : Held). Passed (shared_section a.p l) (slot_section a.p l) a.n a.envs.now a.regs.now a.sp.now a.depth c.pass_through-b.new.work c.link_at-u.result a.x h) i.1 c.pass_through-b.ensures.1 in
    let k = count_read (shared_section a.p l) (slot_section a.p l) a.n b.row c.requires.0.ready (let r = q.found.row_in in omega arith) a.envs.now b.env in
    let w = q.tail.fits in (
      c.item_count.ensures.1,
      omega (arith, c.item_count.ensures.0, c.requires.2.depth, c.requires.2.items, k, w),
      omega (arith, c.requires.0.ready.few, c.link_at-u.ensures.1),
      c.link_at-u.ensures.2,
    )

pub returns : goal.returns
unfolding part answer
returns c =
    let a = c.args in
    let l = a.image.now in
    let T = read_at a.p l a.n a.envs.now in
    let b = c.in_ok-b.b in
    let g = parted (shared_section a.p l) (slot_section a.p l) a.n a.envs.now a.sp.now a.depth c.pass_through-b.new.work in
    let i = at_ok (λ (h : Held). (refusal_number c.holds_or-known.result ≡ 0) × (c.pass_through-b.result ≡ Ok h)) c.in_ok-b.ensures.1.1 c.and_give.ensures.1 in
    let q = at_ok (λ (h : Held). Passed (shared_section a.p l) (slot_section a.p l) a.n a.envs.now a.regs.now a.sp.now a.depth c.pass_through-b.new.work c.link_at-u.result a.x h) i.1 c.pass_through-b.ensures.1 in
    let ct = c.item_count.ensures.0 ∙ count_read (shared_section a.p l) (slot_section a.p l) a.n b.row c.requires.0.ready (let r = q.found.row_in in omega arith) a.envs.now b.env in (
      λ P e. stored P _ T a.regs.now a.sp.now a.depth a.x.pointer a.x.item a.x.source a.x.row c.link_at-u.result (refusal_number c.formed_row-formed.result) _ _ (refusal_number c.pass_through-b.result) _ (g b).0 (g b).1
          (c.formed_row-formed.ensures P e ∙ told_number tt c.formed_row-formed.result) (c.link_at-u.ensures.0 _ _ _ c.requires.0.ready)
          (c.pass_through-b.ensures.0 P _ e (c.link_at-u.ensures.0 _ _ _ c.requires.0.ready) ∙ told_ok g i.1 ∙ ap (λ (j : ℕ). answer j (g b)) (sym (is_zero i.1)))
          (c.holds_or-known.ensures ∙ link_number 8 c.link_at-u.result.link) c.and_give.ensures.0 c.and_give-2.ensures.0
          c.set_item.new.sp _ (refusal_number c.set_register.result) _ (is_zero c.in_ok-b.was) (written T _ _ _ _ _ _ _ _ _ _
          c.set_item.result q.tail q.put ct (c.set_item.ensures.0 _)
          (c.set_item.ensures.1 _)) (ap (T.type (2 * length a.envs.now)) c.given_row.ensures.0
          ∙ q.put.points) (c.set_register.ensures.0 _ P _ _ ∙ told_number _ c.set_register.result) ∙ sym (told_number _ c.set_register.result),
      λ k. record {
        regs_in = c.set_register.ensures.1 _ (omega arith) k.regs_in;
        sp_in = c.set_item.ensures.2 _ _ (c.link_at-u.ensures.3 _ k.regs_in) k.sp_in;
      },
    )
