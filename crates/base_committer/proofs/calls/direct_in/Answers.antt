-- `direct_in` meets its contract: the test of the tables, which leaves the rows in order; then the part.
use Rattle.std.proofs.Common.{sym, ◌∙◌}
use Rattle.base_committer.proofs.Answers.{tables_tested, tables_in_order, direct-tables, direct-part}
use Rattle.block_store.specs.Stored.{store_in}
use Rattle.consensus.specs.Statuses.{row_of}
use Rattle.types.proofs.Reports.{passed_on}
use Rattle.base_committer.proofs.calls.direct_in.Goals as goal

pub returns-in_err-refuse_unless : goal.returns-in_err-refuse_unless
returns-in_err-refuse_unless g c =
    let a = c.args in
    let r = c.requires.room in
    let e = tables_tested a.committee.size (store_in a.store.now) g.row.ROWS _ r.0 r.1 c.is_sound_by-sound.ensures.value in
    passed_on row_of _ _ _ c.from_residual.ensures.1 c.in_err-refuse_unless.ensures.0
    ∙ direct-tables a.committee a.options (store_in a.store.now) a.place.authority.0 a.place.round.0 c.requires.admitted (sym e ∙ c.in_err-refuse_unless.ensures.1)

pub returns : goal.returns
returns g c =
    let a = c.args in
    let r = c.requires.room in
    let e = c.is_sound_by-sound.ensures in
    let t = tables_tested a.committee.size (store_in a.store.now) g.row.ROWS _ r.0 r.1 e.value in
    direct-part a.committee a.options (store_in a.store.now) a.place.authority.0 a.place.round.0 c.requires.admitted (sym t ∙ c.in_ok-refuse_unless.ensures) (sym c.is_elected.ensures ∙ c.in_ok-refuse_unless-2.ensures)
    _ (tables_in_order a.committee.size (store_in a.store.now) g.row.ROWS _ r.0 r.1 e.value _ c.in_ok-refuse_unless.ensures e.order)
    _ _ c.stake_words-stakes.ensures c.direct_decision.ensures
