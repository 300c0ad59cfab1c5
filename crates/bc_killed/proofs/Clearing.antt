-- Killed candidates go one by one.
use Rattle.std.proofs.Common.{◌≡◌, ℕ, suc, ◌+◌, ◌≤◌, Bool, true, false, List, [], ◌∷◌, ◌++◌, length, Option, Some, None, sym, ap, ◌∙◌, subst, arith, if◌then◌else◌}
use Rattle.std.specs.Prelude.{IfSome, is_some}
use Rattle.std.proofs.lemmas.List.{append-nil, map_push}
use Rattle.bc_candidate.proofs.Between.{all_both}
use Rattle.bc_candidate.proofs.Seeing.{all_waited}
use Rattle.bc_candidate.proofs.of_bc_deed.Sequence.{done_both, done_first, done_then}
use Rattle.bc_candidate.proofs.of_bc_hand.Knowing.{View, m}
use Rattle.bc_candidate.specs.Dead.{HasDropped, HasTaken, IsNoneKilled}
use Rattle.bc_candidate.specs.Noted.{KeepsAll}
use Rattle.bc_candidate.specs.bc_deed.Flushed.{HasDone}
use Rattle.bc_candidate.specs.bc_hand.Seats.{Did, IsCoreSeat, StandIn}
use Rattle.bc_candidate.specs.bc_hand.declared.hand.Hand.{Hand}
use Rattle.bc_candidate.specs.bc_machine.World.{IsAmong, IsFlight, World}
use Rattle.bc_disk.specs.Disk.{DiskFacts}
use Rattle.bc_events.specs.declared.event.Deed.{Deed}
use Rattle.bc_events.specs.declared.event.Deed.TheVariants as deed
use Rattle.bc_events.specs.declared.event.UnpinKind.TheVariants as unpin
use Rattle.bc_flight.specs.Candidates.{first_of, without_first}
use Rattle.bc_flight.specs.Flight.{InFlight}
use Rattle.bc_flight.specs.declared.candidate.Candidate.{Candidate}
use Rattle.bc_flight.specs.declared.candidate.Wanted.TheVariants.{Dead}
use Rattle.bc_seats.specs.Seats.{Waited}
use Rattle.bc_seats.proofs.Between.{seen_alike}
use Rattle.bc_killed.specs.Killed.{HasCleared, drops}

none_one : (c : Candidate) → None ≡ Some c → ⊥
none_one c is = absurd (cc)

-- one was taken out
pub one_fewer : (cs : List Candidate) (c : Candidate) → first_of Dead cs ≡ Some c
    → length (without_first Dead cs) + 1 ≡ length cs
one_fewer [] c is = absurd (none_one c is)
one_fewer (x ∷ xs) c is = go (one_fewer xs c) x.killed is
  where
    go : (first_of Dead xs ≡ Some c → length (without_first Dead xs) + 1 ≡ length xs) → (b : Bool)
        → (if b then Some x else first_of Dead xs) ≡ Some c
        → length (if b then xs else x ∷ without_first Dead xs) + 1 ≡ suc (length xs)
    go later true at = omega arith
    go later false at = let rest = later at in omega (arith, rest)

-- where none stands, none was killed
pub none_stands : (f : InFlight) (x : World) → IsFlight f x → length f.candidates ≤ 0
    → IsNoneKilled x
none_stands f x on few y view n stands =
    absurd (empty f.candidates few n ((on y view).candidates.all n stands))
  where
    empty : (cs : List Candidate) → length cs ≤ 0 → (n : ℕ) → IsAmong n cs → ⊥
    empty [] few n is = is
    empty (c ∷ cs) few n is = omega (arith, few)

pub drops_more : (ns : List ℕ) (n : ℕ) → drops ns ++ deed.Unpin (unpin.Dead n) ∷ []
    ≡ drops (ns ++ n ∷ [])
drops_more ns n = sym (map_push (λ k. deed.Unpin (unpin.Dead k)) ns n)

-- the rest of a hand stays where another step leaves it
pub same_rest : {C B : Type 0} (a b c : Hand C B)
    → b ≡ record a { flight = b.flight; buckets = b.buckets }
    → c ≡ record b { flight = c.flight; buckets = c.buckets }
    → c ≡ record a { flight = c.flight; buckets = c.buckets }
same_rest a b c first next = next
    ∙ ap (λ (h : Hand _ _). record h { flight = c.flight; buckets = c.buckets }) first

module _ {C B : Type 0} (cache_facts : C → DiskFacts) (backing_facts : B → DiskFacts) where
  pub dropped_more : (ns : List ℕ) (n : ℕ) (u v w : View cache_facts backing_facts)
      → HasDone cache_facts backing_facts (drops ns) u v
      → Did cache_facts backing_facts (Some (deed.Unpin (unpin.Dead n))) v w
      → HasDone cache_facts backing_facts (drops (ns ++ n ∷ [])) u w
  dropped_more ns n u v w before did =
      subst (λ (ds : List Deed). HasDone cache_facts backing_facts ds u w) (drops_more ns n)
      (done_then cache_facts backing_facts (drops ns) (Some (deed.Unpin (unpin.Dead n))) u v w
      before did)

  pub cleared_then : (ns : List ℕ) (u v w : View cache_facts backing_facts)
      → HasDone cache_facts backing_facts (drops ns) u v → KeepsAll cache_facts backing_facts u v
      → HasDropped cache_facts backing_facts None v w → HasCleared cache_facts backing_facts u w
  cleared_then ns u v w before keeps last = record {
    numbers = ns;
    done = subst (λ (ds : List Deed). HasDone cache_facts backing_facts ds u w)
        (append-nil (drops ns))
        (done_then cache_facts backing_facts (drops ns) None u v w before last.0);
    none = last.1;
    keeps = all_both cache_facts backing_facts u v w keeps last.2;
  }

  -- between borrowing the parts and returning them
  pub cleared_between : (u v w x : View cache_facts backing_facts)
      → IsCoreSeat cache_facts backing_facts u → IsCoreSeat cache_facts backing_facts v
      → IsCoreSeat cache_facts backing_facts w → IsCoreSeat cache_facts backing_facts x
      → Waited (m cache_facts backing_facts) u v → HasCleared cache_facts backing_facts v w
      → Waited (m cache_facts backing_facts) w x → x.seen ≡ w.seen
      → HasCleared cache_facts backing_facts u x
  cleared_between u v w x a b c d first h last seen = record {
    numbers = h.numbers;
    done = subst (λ (ds : List Deed). HasDone cache_facts backing_facts ds u x)
        (append-nil (drops h.numbers))
        (done_then cache_facts backing_facts (drops h.numbers) None u w x
        (done_both cache_facts backing_facts [] (drops h.numbers) u v w
        (done_first cache_facts backing_facts None u v (record { is = first; seat = b })) h.done)
        (record { is = last; seat = d }));
    none = subst IsNoneKilled (sym (seen_alike (m cache_facts backing_facts) w x last.same seen))
        h.none;
    keeps = all_both cache_facts backing_facts u v x
        (all_waited cache_facts backing_facts u v a first)
        (all_both cache_facts backing_facts v w x h.keeps
        (all_waited cache_facts backing_facts w x c last));
  }

  -- a step of it
  pub some_dropped : (r : Option ℕ) (f g : InFlight) (v w : View cache_facts backing_facts)
      → is_some r ≡ true → HasDropped cache_facts backing_facts r v w → HasTaken r f g
      → (n : ℕ) × Did cache_facts backing_facts (Some (deed.Unpin (unpin.Dead n))) v w
      × KeepsAll cache_facts backing_facts v w
      × (length g.candidates + 1 ≡ length f.candidates)
  some_dropped None f g v w is d t = absurd (cc)
  some_dropped (Some n) f g v w is d t = (
    n,
    d.0,
    d.1,
    ap (λ (cs : List Candidate). length cs + 1) t.candidates
        ∙ one_fewer f.candidates t.oldest t.is,
  )

  pub none_dropped : (r : Option ℕ) (v w : View cache_facts backing_facts) → is_some r ≡ false
      → HasDropped cache_facts backing_facts r v w → HasDropped cache_facts backing_facts None v w
  none_dropped None v w is d = d
  none_dropped (Some n) v w is d = absurd (cc)

  pub flight_stands : (h : Hand C B) (x : World) (f : InFlight) → h.flight ≡ Some f
      → StandIn cache_facts backing_facts h x → IsFlight f x
  flight_stands h x f is stand =
      subst (λ (o : Option InFlight). IfSome o (λ g. IsFlight g x)) is stand.flight
