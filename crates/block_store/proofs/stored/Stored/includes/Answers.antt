-- `includes` meets its contract. Empty for unsound tables; on sound ones the part gives the same. Assumes nothing.
use mathlib.Core.Path.{refl, sym, ◌∙◌}
use Rattle.block_store.proofs.Soundness.{given-row}
use Rattle.block_store.specs.Includes.{includes_given}
use Rattle.block_store.specs.Stored.{store_in}
use Rattle.block_store.proofs.stored.Stored.includes.Goals as goal

pub returns-then-not-is_sound : goal.returns-then-not-is_sound
unfolding includes_given
returns-then-not-is_sound c = rw (sym c.is_sound.ensures ∙ c.if-not-is_sound.true) refl

pub returns : goal.returns
returns c =
    let a = c.args in
    c.includes_of.ensures ∙ given-row (store_in a.self.now) a.row (sym c.is_sound.ensures ∙ c.if-not-is_sound.false)
