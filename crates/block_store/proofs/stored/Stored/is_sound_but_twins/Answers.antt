-- Sound sizes bound the rows used. Assumes nothing.
use Rattle.std.proofs.Common.{length, sym, ◌∙◌, arith}
use Rattle.block_store.proofs.Tests.{sized}
use Rattle.block_store.proofs.stored.Stored.is_sound_but_twins.Goals as goal

pub rows_are_sound-requires : goal.rows_are_sound-requires
rows_are_sound-requires c =
    let s = c.args.self.now in
    let z = sized (length s.blocks.now) (length s.includes.now) s.stored (sym c.sizes_are_sound.ensures ∙ c.if-sizes_are_sound.true) in
    omega (arith, z.rows_used)

pub overflow_mul-self : goal.overflow_mul-self
overflow_mul-self c =
    let s = c.args.self.now in
    let z = sized (length s.blocks.now) (length s.includes.now) s.stored (sym c.sizes_are_sound.ensures ∙ c.if-sizes_are_sound.true) in
    omega (arith, z.rows_used, z.few_rows)
