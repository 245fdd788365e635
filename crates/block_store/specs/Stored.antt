-- The store that the lent tables are. Assumes nothing: this is a definition.
use Rattle.block_store.specs.Store.{Store, store_of}
use Rattle.block_store.specs.declared.stored.Stored.{Stored}

abbrev pub store_in : Stored → Store
store_in s = store_of s.blocks.now s.includes.now s.stored
