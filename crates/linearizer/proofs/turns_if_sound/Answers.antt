-- Past the tests of tables, flags and leaders the call is the part.
use Rattle.std.proofs.Common.{length, ◌∙◌, sym}
use Rattle.block_store.specs.Stored.{store_in}
use Rattle.linearizer.proofs.Answers.{passed, commit-part, order-part, ends-part, flags-part}
use Rattle.linearizer.specs.Commits.{room}
use Rattle.linearizer.proofs.turns_if_sound.Goals as goal

pub returns : goal.returns
returns c =
    let a = c.args in
    let s = store_in a.store.now in
    let f = a.flags.now in
    let l = a.leaders.now in
    let r = room (length a.order.now) (length a.ends.now) (length a.work.now) in
    let e = c.turns_in_room.ensures in
    let pass = passed s f l _ _ _ c.is_sound-sound.ensures c.flags_are_sound.ensures c.all_stored.ensures c.in_ok-refuse_unless.ensures c.in_ok-refuse_unless-2.ensures c.in_ok-refuse_unless-3.ensures in
    record {
      result_value = e.result_value ∙ sym (commit-part s f l r pass);
      ordered = e.ordered ∙ sym (order-part s f l r pass);
      ended = e.ended ∙ sym (ends-part s f l r pass);
      flagged = e.flagged ∙ sym (flags-part s f l r pass);
    }
