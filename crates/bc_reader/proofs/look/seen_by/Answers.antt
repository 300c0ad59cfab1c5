use Rattle.std.proofs.Common.{◌≡◌, ◌+◌, ◌<◌, inl, inr, List, Option, Some, None, Vec, Global, sym, subst}
use Rattle.std.specs.Prelude.{MatchOption}
use Rattle.bc_reads.specs.Reads.{AreRuns, HasLost}
use Rattle.bc_reads.specs.declared.runs.ReadRun.{ReadRun}
use Rattle.bc_reader.specs.Noted.{AreNoted, LieInBuckets}
use Rattle.bc_reader.specs.Runs.{LieWithin}
use Rattle.bc_reader.proofs.Finding.{runs_known}
use Rattle.bc_reader.proofs.look.seen_by.Goals as goal

abbrev Found : Type 0
Found = Option (Vec ReadRun Global)

none_of : (o : Found) (P : Type 0) (Q : Vec ReadRun Global → Type 0) → o ≡ None → MatchOption o P Q → P
none_of o P Q is h = subst (λ (x : Found). MatchOption x P Q) is h

some_of : (o : Found) (v : Vec ReadRun Global) (P : Type 0) (Q : Vec ReadRun Global → Type 0)
    → o ≡ Some v → MatchOption o P Q → Q v
some_of o v P Q is h = subst (λ (x : Found). MatchOption x P Q) is h

pub returns-in_default-found-clause-err : goal.returns-in_default-found-clause-err
returns-in_default-found-clause-err c =
    let end = c.args.first + c.args.count in
    inl (none_of c.in-Ok.found (HasLost c.args.leaf.now c.args.buckets.now c.args.first end)
    (λ v. AreRuns c.args.leaf.now c.args.buckets.now c.args.first end v.items)
    c.in_default-found.is c.in-Ok.ensures.runs)

pub returns-then-not-are_within-clause-err : goal.returns-then-not-are_within-clause-err
returns-then-not-are_within-clause-err c =
    let end = c.args.first + c.args.count in
    inr (
      c.in-Some.runs.items,
      some_of c.in-Ok.found c.in-Some.runs
          (HasLost c.args.leaf.now c.args.buckets.now c.args.first end)
          (λ v. AreRuns c.args.leaf.now c.args.buckets.now c.args.first end v.items)
          c.in-Some.is c.in-Ok.ensures.runs,
      subst (λ (rs : List ReadRun). ¬ (LieWithin rs c.args.sectors)) c.deref.ensures.value
          c.if-not-are_within.ensures,
    )

pub note_uses-requires : goal.note_uses-requires
note_uses-requires c =
    let end = c.args.first + c.args.count in
    subst (λ (rs : List ReadRun). LieInBuckets rs c.args.buckets.now) (sym c.deref-2.ensures.value)
    (runs_known c.args.leaf.now c.args.buckets.now c.args.first end c.in-Some.runs.items
    (some_of c.in-Ok.found c.in-Some.runs
    (HasLost c.args.leaf.now c.args.buckets.now c.args.first end)
    (λ v. AreRuns c.args.leaf.now c.args.buckets.now c.args.first end v.items)
    c.in-Some.is c.in-Ok.ensures.runs))

pub returns-clause-ok : goal.returns-clause-ok
returns-clause-ok c =
    let end = c.args.first + c.args.count in (
      record {
        runs = some_of c.in-Ok.found c.in-Some.runs
            (HasLost c.args.leaf.now c.args.buckets.now c.args.first end)
            (λ v. AreRuns c.args.leaf.now c.args.buckets.now c.args.first end v.items)
            c.in-Some.is c.in-Ok.ensures.runs;
        noted = subst (λ (rs : List ReadRun). AreNoted rs c.args.buckets.now
            c.in-Ok-note_uses.noted.items) c.deref-2.ensures.value c.in-Ok-note_uses.ensures;
        size = subst (λ n. 0 < n) c.bucket_sectors-size.ensures.size
            c.bucket_sectors-size.ensures.some;
      },
      subst (λ (rs : List ReadRun). LieWithin rs c.args.sectors) c.deref.ensures.value
          c.if-not-are_within.ensures,
    )
