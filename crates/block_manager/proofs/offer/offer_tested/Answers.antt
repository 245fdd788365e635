-- Each way out is a law of Offering.
use Rattle.std.proofs.Common.{sym, ◌∙◌}
use borrow.Author.Tests.{eqb-true, eqb-false}
use Rattle.block_manager.proofs.Offering.{passed, call-committee, call-uneven, call-rest}
use Rattle.block_tables.specs.Words.{Tables, tables_of}
use Rattle.offers.specs.Offers.{reported_offer}
use Rattle.types.specs.declared.refusal.Refusal.TheVariants.{BadCommittee, BadTable}
use Rattle.block_manager.proofs.offer.offer_tested.Goals as goal

pub returns-in_err-refuse_unless : goal.returns-in_err-refuse_unless
returns-in_err-refuse_unless c =
    let a = c.args in
    let t : Tables = tables_of a.blocks.now a.includes.now a.stored a.waiting.now a.named.now a.pending in
    let all = call-committee a.committee t a.x a.list.now (sym c.is_sound.ensures ∙ c.in_err-refuse_unless.ensures.1) in
    let q = passed (λ r. reported_offer r) _ (λ s p. tables_of a.blocks.now a.includes.now s a.waiting.now a.named.now p) _ a.stored a.pending c.from_residual.result _ BadCommittee c.from_residual.ensures.1 c.in_err-refuse_unless.ensures.0 all in
    record { answer_value = q.0; after = q.1 }

pub returns-in_err-refuse_unless-2 : goal.returns-in_err-refuse_unless-2
returns-in_err-refuse_unless-2 c =
    let a = c.args in
    let t : Tables = tables_of a.blocks.now a.includes.now a.stored a.waiting.now a.named.now a.pending in
    let all = call-uneven a.committee t a.x a.list.now (sym c.is_sound.ensures ∙ c.in_ok-refuse_unless.ensures) (eqb-false _ _ c.in_err-refuse_unless-2.ensures.1) in
    let q = passed (λ r. reported_offer r) _ (λ s p. tables_of a.blocks.now a.includes.now s a.waiting.now a.named.now p) _ a.stored a.pending c.from_residual-in_err-refuse_unless-2.result _ BadTable c.from_residual-in_err-refuse_unless-2.ensures.1 c.in_err-refuse_unless-2.ensures.0 all in
    record { answer_value = q.0; after = q.1 }

pub returns : goal.returns
returns c =
    let a = c.args in
    let t : Tables = tables_of a.blocks.now a.includes.now a.stored a.waiting.now a.named.now a.pending in
    let all = call-rest a.committee t a.x a.list.now (sym c.is_sound.ensures ∙ c.in_ok-refuse_unless.ensures) (eqb-true _ _ c.in_ok-refuse_unless-2.ensures) _ _ (c.offer_sized.ensures.answer_value, c.offer_sized.ensures.after) in
    record { answer_value = all.0; after = all.1 }
