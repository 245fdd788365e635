-- Past the tests of the room the leaders have had their turns; of the work area nothing is said.
use Rattle.std.proofs.Common.{length, replicate, refl}
use borrow.Author.Tests.{leb-true}
use Rattle.block_store.specs.Stored.{store_in}
use Rattle.linearizer.proofs.Answers.{in_turns}
use Rattle.linearizer.specs.Commits.{room}
use Rattle.linearizer.proofs.parts.turns_in_room.Goals as goal

pub returns : goal.returns
returns c =
    let a = c.args in
    let all = in_turns (store_in a.store.now) a.flags.now a.leaders.now (room (length a.order.now) (length a.ends.now) (length a.work.now))
    (leb-true _ _ c.in_ok-refuse_unless.ensures) (leb-true _ _ c.in_ok-refuse_unless-2.ensures) (leb-true _ _ c.in_ok-refuse_unless-3.ensures)
    c.take_turns.result _ _ _ _ (replicate (length a.work.now) 0) _ c.requires.order_zero c.requires.ends_zero c.take_turns.ensures.result_value c.take_turns.ensures.areas refl in
    record { result_value = all.0; ordered = all.1.0; ended = all.1.1.0; flagged = all.1.1.1.1 }
