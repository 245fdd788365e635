-- The first word that differs decides. Assumes nothing.
use Rattle.std.proofs.Common.{◌≡◌, ℕ, ◌+◌, ◌-◌, ◌*◌, [], ◌∷◌, ap, ◌∙◌, arith}
use Rattle.index.proofs.Turns.{rest_order, rest-differs, rest-same, rest_end}
use Rattle.types.proofs.References.{told_last}
use Rattle.types.specs.References.{reported_order}
use Rattle.types.specs.Reports.{Gives}
use Rattle.index.proofs.keys.Keys.compare_more.Goals as goal

pub loop-k-init : goal.loop-k-init
loop-k-init c = let e : 2 + c.args.self.now.more - 2 ≡ c.args.self.now.more = omega arith in ap (λ (m : ℕ). rest_order c.args.self.now.rows.now (c.args.a * c.args.self.now.width) (c.args.b * c.args.self.now.width) 2 m) e

pub returns-then-x-y : goal.returns-then-x-y
returns-then-x-y c =
    ap reported_order c.cmp.ensures ∙ told_last _ _
    ∙ ap (λ (o : ℕ). Gives (o ∷ [])) (rest-differs c.args.self.now.rows.now (c.args.a * c.args.self.now.width) (c.args.b * c.args.self.now.width) c.loop-k.k (2 + c.args.self.now.more - c.loop-k.k) _ _ (omega arith) c.field-x.ensures c.field-y.ensures c.if-x-y.true ∙ c.loop-k.invariant)

pub loop-k-preserved : goal.loop-k-preserved
loop-k-preserved c =
    let w = c.args.self.now.rows.now in
    let a = c.args.a * c.args.self.now.width in
    let b = c.args.b * c.args.self.now.width in
    let m = 2 + c.args.self.now.more - c.loop-k.k in
    let e : 2 + c.args.self.now.more - (c.loop-k.k + 1) ≡ m - 1 = omega arith in
    ap (λ (n : ℕ). rest_order w a b (c.loop-k.k + 1) n) e ∙ rest-same w a b c.loop-k.k m _ _ (omega arith) c.field-x.ensures c.field-y.ensures c.if-x-y.false ∙ c.loop-k.invariant

pub returns : goal.returns
returns c =
    ap (λ (o : ℕ). Gives (o ∷ [])) (rest_end c.args.self.now.rows.now (c.args.a * c.args.self.now.width) (c.args.b * c.args.self.now.width) c.loop-k.k (2 + c.args.self.now.more - c.loop-k.k) (omega arith) ∙ c.loop-k.invariant)
