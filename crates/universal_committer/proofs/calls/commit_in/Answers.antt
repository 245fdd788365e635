-- `commit_in` meets its contract: a refusal of the tests, or what `commit` answers. Assumes nothing.
use Prim.Native.Nat.{ℕ}
use lib.ListN.{length, replicate, length-replicate}
use mathlib.Core.Path.{refl, ap, ◌∙◌}
use Rattle.block_store.specs.Stored.{store_in}
use Rattle.types.proofs.Reports.{passed_on}
use Rattle.types.specs.Reports.{reported_verdict}
use Rattle.universal_committer.specs.Calls.{counts_of}
use Rattle.universal_committer.proofs.Committing.{tested-done, ends-refused, ends-committed}
use Rattle.universal_committer.proofs.Ordered.{handed}
use Rattle.universal_committer.proofs.Walking.{zeros_own}
use Rattle.universal_committer.proofs.calls.commit_in.Goals as goal

pub commit-requires : goal.commit-requires
commit-requires g c =
    let a = c.args in
    let s = store_in a.store.now in
    record {
      tested = tested-done a.committee a.options s a.memory.now a.decided a.last a.threshold.0 (length c.clear.new.area) c.tested.result _ c.tested.ensures.result_value c.in_ok-tested.was;
      area_value = (zeros_own a.area.now c.clear.new.area c.clear.ensures, zeros_own a.work.now c.clear_bytes.new.area c.clear_bytes.ensures);
      in_order = handed s c.tested.new.order a.memory.now a.decided c.has_room.result _ _ c.then_some-placed.result c.has_room.ensures c.then_some-placed.ensures (rw (length-replicate {A = ℕ} g.row.ROWS 0) at (c.tested.ensures.ordered (ap reported_verdict c.in_ok-tested.was)));
    }

pub returns-in_err-tested : goal.returns-in_err-tested
returns-in_err-tested g c =
    let a = c.args in
    let e = ends-refused a.committee a.options (store_in a.store.now) a.memory.now a.decided a.last a.threshold.0 (length a.area.now) (length a.work.now) (length c.clear.new.area) (length c.clear_bytes.new.area) c.clear.auto.area c.clear_bytes.auto.area c.tested.result c.tested.ensures.result_value _ c.in_err-tested.was c.from_residual.result (passed_on counts_of c.from_residual.result _ _ c.from_residual.ensures.1 refl) c.clear.new.area c.clear.ensures in
    record { result_value = e.0; filled = e.1.0; remembers = e.1.1; zeroed = c.clear_bytes.ensures }

pub returns : goal.returns
returns g c =
    let a = c.args in
    let e = ends-committed a.committee a.options (store_in a.store.now) a.memory.now a.decided a.last a.threshold.0 (length a.area.now) (length a.work.now) (length c.clear.new.area) (length c.clear_bytes.new.area) c.clear.auto.area c.clear_bytes.auto.area c.tested.result c.tested.ensures.result_value _ c.in_ok-tested.was c.stake_words-stakes.result c.stake_words-stakes.ensures c.commit.result c.commit.new.area c.commit.new.memory c.commit.ensures.result_value c.commit.ensures.filled c.commit.ensures.remembers in
    record {
      result_value = e.0;
      filled = e.1.0;
      remembers = e.1.1;
      zeroed = c.commit.ensures.zeroed ∙ ap (λ (n : ℕ). replicate n 0) c.clear_bytes.auto.area;
    }
