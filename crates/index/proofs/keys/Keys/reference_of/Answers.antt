-- A row within the table reads its words; any other row, and the table's end, stand past the end. Assumes nothing.
use Rattle.std.proofs.Common.{◌*◌, ◌≤◌, sym, ◌∙◌, le-mul_of_pos_right, arith}
use Rattle.types.proofs.References.{ref_beyond}
use Rattle.index.proofs.keys.Keys.reference_of.Goals as goal

pub returns : goal.returns
returns c =
    let a = c.args in
    let h : a.row ≤ a.row * a.self.now.width = le-mul_of_pos_right a.row (omega (arith, a.self.now.wide)) in
    c.reference_at-2.ensures ∙ sym (ref_beyond _ _ (omega arith)) ∙ ref_beyond _ _ (omega (arith, h, c.if-row-n.false))
