-- The tables of both sides as two structs lend them. Assumes nothing: these are definitions.
use Rattle.block_store.specs.declared.stored.Stored.{Stored}
use Rattle.block_store.specs.Store.{Store, store_of}
use Rattle.block_tables.specs.Words.{Tables, tables_of}
use Rattle.block_tables.specs.declared.waiting.Waiting.{Waiting}

-- the pending side: its includes are references, six words each
abbrev pub waiting_in : Waiting → Store
waiting_in w = store_of w.waiting.now w.named.now w.pending

-- the tables of both sides
abbrev pub lent_tables : Stored → Waiting → Tables
lent_tables s w = tables_of s.blocks.now s.includes.now s.stored w.waiting.now w.named.now w.pending
