-- A run that begins on a sound pair is seen from an opening.
use Rattle.std.proofs.Common.{◌≡◌, inl, inr, ◌⊎◌, ℕ, ◌+◌, ◌<◌, false, ◌≤◌, List, ap, sym, ◌∙◌, subst, arith}
use Rattle.std.specs.Prelude.{Vec, fold}
use Rattle.std.specs.declared.alloc.Global.{Global}
use Rattle.std.proofs.lemmas.Bool.{cases_lt}
use Rattle.bc_alloc.specs.Reserves.{times_listed}
use Rattle.bc_bucket.specs.Buckets.{bucket_of}
use Rattle.bc_cache.specs.Slots.{NodeCache}
use Rattle.bc_disk.specs.Disk.{DiskFacts}
use Rattle.bc_events.specs.declared.event.Event.{Event}
use Rattle.bc_journal.specs.Journal.{Journal}
use Rattle.bc_parts.specs.Seat.{Run}
use Rattle.bc_resume.specs.Resume.{IsResumed}
use Rattle.bc_begun.specs.bc_slots.Parts.{AreParts}
use Rattle.bc_begun.specs.bc_machine.declared.part.BackingPart.{BackingPart}
use Rattle.bc_begun.specs.bc_machine.declared.part.CorePart.{CorePart}
use Rattle.bc_begun.specs.bc_machine.declared.part.Tracing.{Tracing}
use Rattle.bc_begun.specs.bc_machine.World.{World, after, opening}
use Rattle.bc_deed.specs.bc_hand.Seats as seats
use Rattle.bc_begun.specs.Begin.{BeginsOn, IsSeenAs, first_seq, parts_of}
use Rattle.bc_begun.proofs.Origin.{law_origin}
use Rattle.bc_cached.specs.Laws.{LawFit, LawSeen, parts_in}

pub law_fit : LawFit
law_fit g r reserves buckets has known order = record {
  same_count = known.each ∙ sym same;
  not_held = λ k some. held k some (cases_lt k g.nbuckets);
}
  where
    same : reserves.count ≡ g.nbuckets
    same = ap (λ x. x.count) has.filled

    held : (k : ℕ) → 0 < times_listed reserves k → (k < g.nbuckets) ⊎ (g.nbuckets ≤ k)
        → (bucket_of buckets k).held ≡ false
    held k some (inl low) = (known.known k low).unused.2
    held k some (inr high) = absurd (let none = order.below k (omega (arith, same)) in omega arith)

pub law_seen : {C B : Type 0} (cache_facts : C → DiskFacts) (backing_facts : B → DiskFacts)
    → LawSeen cache_facts backing_facts
law_seen {C} {B} cache_facts backing_facts p v layout read pending count was ready parts seat
    has view sound divided are on =
    let k = has.beginning in
    let made = has.made in
    let begins : BeginsOn cache_facts backing_facts p v (parts_in ready pending) read count was k = record {
      cache = ap (λ c. (cache_facts c).holds) made.cache ∙ on.cache;
      cache_was = on.cache_was;
      image = on.image;
      backing = ap (λ (b : BackingPart B). (backing_facts b.disk).holds) made.backing ∙ on.backing;
      held = λ s. ap (λ (b : BackingPart B). on.image (b.offset + s)) made.backing ∙ on.held s;
      size = ap (λ (b : BackingPart B). b.size) made.backing ∙ on.size;
      bytes = on.bytes;
      buckets = made.buckets.buckets;
      reserves = made.buckets.reserves;
      fill = made.buckets.fill;
      chain = ap (λ (c : Vec ℕ Global). c.items) made.buckets.chain_is ∙ on.chain;
      renewing = made.buckets.renewing;
      round = record {
        walk = ap (λ (t : Tracing). t.walk) made.buckets.round ∙ on.walk;
        going = ap (λ (t : Tracing). t.going) made.buckets.round;
        next = ap (λ (t : Tracing). t.next) made.buckets.round;
      };
      found = on.found;
      entries = on.entries;
      resumed = subst (IsResumed v.geometry read) (sym made.journal) on.resumed;
      leaves = subst (λ (cs : List NodeCache).
          AreParts v.geometry ready.tree.leaves pending count (cache_facts was) cs)
          (sym made.leaves) on.leaves;
    } in
    let found = law_origin cache_facts backing_facts p v layout (parts_in ready pending) read count
    was k view sound divided are begins in
    let is : opening cache_facts backing_facts (parts_of ready.tree k)
    ≡ seats.world cache_facts backing_facts seat =
    ap (λ (ps : List (CorePart C B)). opening cache_facts backing_facts ps) (sym has.start)
    ∙ ap (λ (r : Run (CorePart C B)). opening cache_facts backing_facts r.start)
    (sym has.works.run)
    ∙ ap (λ (es : List Event). fold after (opening cache_facts backing_facts seat.run.start) es)
    (sym has.seen) in (
      found.0,
      subst (λ (j : Journal). IsSeenAs p v layout (parts_in ready pending) (first_seq j)
          (seats.world cache_facts backing_facts seat) found.0) made.journal
          (subst (λ (y : World). IsSeenAs p v layout (parts_in ready pending) (first_seq k.journal) y
          found.0) is found.1),
    )
