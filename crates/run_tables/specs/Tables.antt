-- What the tables of a run hold, as a step takes it.
-- Assumes nothing: these are definitions.
use Rattle.std.specs.Prelude.{replicate}
use Rattle.ordering.specs.Steps.{Kept, kept_of}
use Rattle.run_tables.specs.declared.Tables.{Tables}

abbrev pub kept_in : Tables → Kept
kept_in t = kept_of t.blocks t.includes t.waiting t.named t.flags t.memory

-- before the first offer
abbrev pub empty_kept : Kept
empty_kept = kept_of (replicate 1024 0) (replicate 256 0) (replicate 1024 0) (replicate 1536 0) (replicate 128 0) (replicate 512 0)
