-- `put::put_offsets` meets its contract: one offset after another.
use Rattle.std.proofs.Common.{ℕ, ◌-◌, arith, sym, ap, ◌∙◌}
use lib.ListN.{length-replicate}
use Rattle.arrange.specs.Places.{state_at}
use Rattle.arrangement.proofs.Laid.{size_small, ends_begin, ends_more, ends_end}
use Rattle.arrangement.proofs.put.put_offsets.Goals as goal

pub loop-j-init : goal.loop-j-init
loop-j-init c = ends_begin _ _ _ c.requires

pub loop-j-preserved : goal.loop-j-preserved
loop-j-preserved c =
    let s = c.args.states.now in
    let state = s.digits.states c.loop-j.j c.loop-j-test.true in
    let size = c.saturating_sub-to.ensures ∙ ap (λ (i : ℕ). i - s.depth) state ∙ sym (length-replicate {A = ℕ} (state_at s.depth s.cells s.number c.loop-j.j - s.depth) 0) in
    ends_more c.loop-j.invariant c.loop-j-test.true size (omega (arith, c.saturating_sub-to.ensures, state, size_small s.depth s.cells s.number c.loop-j.j))

pub returns : goal.returns
returns c = ends_end c.loop-j.invariant (omega arith) (omega arith)
