-- The first word that differs decides. Assumes nothing.
use Rattle.index.proofs.Turns.{told_differs, told_same}
use Rattle.index.specs.Keys.{key_at}
use Rattle.index.proofs.keys.Keys.compare.Goals as goal

pub returns-then-round-other_round : goal.returns-then-round-other_round
unfolding key_at
returns-then-round-other_round c = rw (c.cmp.ensures, ← c.field-round.ensures, ← c.field-other_round.ensures) (told_differs _ _ _ _ c.if-round-other_round.true)

pub returns-then-authority-other_authority : goal.returns-then-authority-other_authority
unfolding key_at
returns-then-authority-other_authority c =
    rw (c.cmp-then-authority-other_authority.ensures, ← c.field-round.ensures, ← c.field-other_round.ensures, ← c.field-authority.ensures, ← c.field-other_authority.ensures)
    (told_same _ _ _ _ _ c.if-round-other_round.false (told_differs _ _ _ _ c.if-authority-other_authority.true))

pub returns : goal.returns
unfolding key_at
returns c =
    rw (← c.field-round.ensures, ← c.field-other_round.ensures, ← c.field-authority.ensures, ← c.field-other_authority.ensures)
    (told_same _ _ _ _ _ c.if-round-other_round.false (told_same _ _ _ _ _ c.if-authority-other_authority.false c.compare_more.ensures))
