-- The areas have room for the rows of both sides.
use Rattle.block_tables.proofs.Testing.{areas-fit}
use Rattle.block_tables.specs.Words.{tables_of}
use Rattle.block_manager.proofs.offer.offer_in.Goals as goal

pub offer_by-requires : goal.offer_by-requires
offer_by-requires g c =
    let a = c.args in
    record {
      reference_words_len = c.requires.reference_words_len;
      work_value = areas-fit a.size (tables_of a.blocks.now a.includes.now a.stored a.waiting.now a.named.now a.pending) g.row.ROWS c.requires.room;
    }
