-- All but the references, and then these. Assumes nothing.
use Rattle.std.proofs.Common.{refl, sym, ◌∙◌}
use Rattle.block_store.proofs.Twins.{sound-split}
use Rattle.block_store.proofs.stored.Stored.is_sound.Goals as goal

pub returns-else-is_sound_but_twins : goal.returns-else-is_sound_but_twins
returns-else-is_sound_but_twins c = c.if-is_sound_but_twins.false ∙ sym (sound-split _ _ ∙ rw (sym c.is_sound_but_twins.ensures ∙ c.if-is_sound_but_twins.false) refl)

pub returns-then-is_sound_but_twins : goal.returns-then-is_sound_but_twins
returns-then-is_sound_but_twins c = c.are_distinct.ensures ∙ sym (sound-split _ _ ∙ rw (sym c.is_sound_but_twins.ensures ∙ c.if-is_sound_but_twins.true) refl)
