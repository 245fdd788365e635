-- Refused, the clock is as it was.
use Rattle.std.proofs.Common.{◌∙◌}
use Rattle.threshold_clock.proofs.Clocks.{refused-kept}
use Rattle.types.proofs.Reports.{passed_over}
use Rattle.threshold_clock.proofs.lent.after_block.Goals as goal

pub returns-in_err-add_block-clause-clock_value : goal.returns-in_err-add_block-clause-clock_value
returns-in_err-add_block-clause-clock_value c =
    passed_over _ c.from_residual.result c.from_residual.ensures.0
    ∙ refused-kept c.args.committee c.args.clock c.args.block _ c.in_err-add_block.ensures.verdict_value
