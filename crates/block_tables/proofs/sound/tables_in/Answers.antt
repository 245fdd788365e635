-- The areas have room for the rows of both sides.
use mathlib.Core.Path.{◌∙◌}
use Rattle.block_tables.proofs.Testing.{areas-fit}
use Rattle.block_tables.specs.Words.{tables_of}
use Rattle.block_tables.proofs.sound.tables_in.Goals as goal

pub returns : goal.returns
returns g c =
    let a = c.args in
    c.tables_are_sound_by.ensures.value ∙ areas-fit a.size (tables_of a.store.now.blocks.now a.store.now.includes.now a.store.now.stored a.waits.now.waiting.now a.waits.now.named.now a.waits.now.pending) g.row.ROWS c.requires.room
