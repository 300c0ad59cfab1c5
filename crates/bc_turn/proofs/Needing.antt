-- The journal in hand needs no entry below a number any more.
use Rattle.std.proofs.Common.{inl, inr, ℕ, sym, ap, ◌∙◌, subst, arith}
use Rattle.std.specs.Prelude.{IfSome}
use Rattle.bc_append.proofs.of_bc_hand.Knowing.{View, m}
use Rattle.bc_append.specs.bc_hand.Seats.{numbers, world}
use Rattle.bc_append.specs.bc_machine.World.{FromEach, IsJournal, World, after}
use Rattle.bc_disk.specs.Disk.{DiskFacts}
use Rattle.bc_journal.specs.Journal.{Journal}
use Rattle.bc_needs.specs.Needs.{NeedsFrom}
use Rattle.bc_seats.specs.Seats.{Waited}
use Rattle.bc_seats.proofs.Knowing.{lasts}
use Rattle.bc_turn.specs.Need.{PartNeedsFrom}
use Rattle.bc_turn.specs.Needed.{HasNeedFrom, LawNeeded}
use Rattle.bc_turn.proofs.Lasting.{law_lasts}
use Rattle.bc_turn.proofs.Told.{law_all}

-- of one part alone, all leaves are its
as_part : (x : World) (low : ℕ) → FromEach x (λ o st. NeedsFrom low st)
    → FromEach x (PartNeedsFrom 1 0 low)
as_part x low h o is course =
    record { needs = λ k its. (h o is course).needs k; next = (h o is course).next }

as_all : (x : World) (low : ℕ) → FromEach x (PartNeedsFrom 1 0 low)
    → FromEach x (λ o st. NeedsFrom low st)
as_all x low h = law_all x 1 low (omega arith) (λ part few.
    subst (λ n. FromEach x (PartNeedsFrom 1 n low)) (omega (arith, few)) h)

needs_on : (x : World) (e : _) (low : ℕ) → FromEach x (λ o st. NeedsFrom low st)
    → FromEach (after x e) (λ o st. NeedsFrom low st)
needs_on x e low h = as_all (after x e) low (law_lasts.part x e 1 0 low (as_part x low h))

journal_is : (j k : Journal) (low : ℕ) (x : World) → HasNeedFrom low j k → IsJournal j x
    → FromEach x (λ o st. NeedsFrom low st) → IsJournal k x
journal_is j k low x (inl (below, to, is)) h needs = subst (λ (y : Journal). IsJournal y x) (sym is)
    (record {
      stands = λ o origin course. let was = h.stands o origin course in record {
        waiting = was.waiting;
        all_wait = was.all_wait;
        durable = was.durable;
        heads = was.heads;
        sealed = was.sealed;
        ring = was.ring;
      };
      needs = needs;
    })
journal_is j k low x (inr (why, is)) h needs = subst (λ (y : Journal). IsJournal y x) (sym is) h

module _ {C B : Type 0} (cache_facts : C → DiskFacts) (backing_facts : B → DiskFacts) where
  pub needs_waited : (v w : View cache_facts backing_facts) (low : ℕ)
      → Waited (m cache_facts backing_facts) v w
      → FromEach (world cache_facts backing_facts v) (λ o st. NeedsFrom low st)
      → FromEach (world cache_facts backing_facts w) (λ o st. NeedsFrom low st)
  needs_waited v w low h was = lasts (m cache_facts backing_facts) v _
      (λ y. FromEach y (λ o st. NeedsFrom low st)) (λ y e on is. needs_on y e low is) h.since was

  pub law_needed : LawNeeded {C = C} {B = B} cache_facts backing_facts
  law_needed p v h j k low has is needs works = record {
    run = works.run;
    seat = works.seat;
    parts = works.parts ∙ ap (λ o. numbers (record h { journal = o })) has;
    stand = record {
      spine = works.stand.spine;
      leaves = works.stand.leaves;
      flight = works.stand.flight;
      buckets = works.stand.buckets;
      journal = journal_is j k low (world cache_facts backing_facts v) is
          (subst (λ o. IfSome o (λ i. IsJournal i (world cache_facts backing_facts v))) has
          works.stand.journal) needs;
      cache = works.stand.cache;
      backing = works.stand.backing;
    };
  }
