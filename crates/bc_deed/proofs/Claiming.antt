-- Claims, as their part has them and as the core has them.
use Rattle.std.proofs.Common.{◌≡◌, ◌≢◌, ◌⊎◌, inl, inr, ℕ, suc, ◌+◌, ◌<◌, ◌≤◌, Bool, true, false, List, [], ◌∷◌, ◌++◌, Option, Some, None, refl, sym, ap, ◌∙◌, subst, arith}
use Rattle.std.specs.Prelude.{◌==◌, ◌&&◌, ◌||◌, max, min, nat_le, nat_lt, if◌then◌else◌}
use Rattle.std.proofs.lemmas.Bool.{le-ltb, lt-ltb}
use Rattle.std.proofs.lemmas.Bool.Decides.{leb_tells}
use Rattle.bc_disk.specs.Disk.{DiskFacts}
use Rattle.bc_key.specs.Key.{start_of}
use Rattle.bc_flight.specs.Candidates.{after_claim, is_over, kill_over, killed_over}
use Rattle.bc_flight.specs.declared.candidate.Candidate.{Candidate}
use Rattle.bc_flight.specs.Claims.{is_exclusive as alone, conflicts, conflicts_any}
use Rattle.bc_flight.specs.Flight.{InFlight, claim_at, claim_of, without, HasConflict}
use Rattle.bc_flight.specs.declared.claim.Claim.{Claim as FlightClaim}
use Rattle.bc_flight.specs.declared.claim.Share.{Share}
use Rattle.bc_flight.specs.declared.claim.Share.TheVariants.{Shared, Exclusive}
use Rattle.bc_parts.specs.Seat.{Holds}
use Rattle.bc_books.specs.Index.{Index}
use Rattle.bc_data.specs.Seats.{Claim, Apart, new_claim, overlap}
use Rattle.bc_data.specs.Data as flow
use Rattle.bc_events.specs.Acts.{is_exclusive, claimed}
use Rattle.bc_events.specs.Run.{Opening, CanDo}
use Rattle.bc_events.specs.Run as core
use Rattle.bc_known.specs.Run as machine
use Rattle.bc_events.specs.declared.event.Deed.{Deed}
use Rattle.bc_events.specs.declared.event.Deed.TheVariants as deed
use Rattle.bc_hand.specs.bc_machine.declared.part.CorePart.TheVariants as part
use Rattle.bc_hand.specs.bc_machine.World.{World, after, data_of, is_told, claim_in, share_of, Kept, kept_of, IsCandidateOf, EachIsOf, IsAmong, AreCandidatesOf, IsFlightOf, IsFlight}
use Rattle.bc_hand.specs.bc_machine.Standing.{candidates_stay, leads_each}
use Rattle.bc_hand.specs.bc_machine.Bare.{IsBare}
use Rattle.bc_hand.proofs.of_bc_machine.Viewing.{plain_view}
use Rattle.bc_data.specs.Enabled as flow_ask
use Rattle.bc_hand.specs.bc_machine.Frame.{Range, by_test}
use Rattle.bc_hand.specs.bc_machine.Note.{note_of, note_after, IsFirmer}
use Rattle.bc_hand.proofs.of_bc_machine.Noting.{note_event, other_event}
use Rattle.bc_seats.proofs.Knowing.{held}
use Rattle.bc_hand.specs.Seats.{by, world, note, IsCoreSeat, AtDeed, MayDo, Did}
use Rattle.bc_hand.proofs.Knowing.{View, m, framed, note_since, note_seen, opening_seen, is_plain_at}
use Rattle.bc_seats.specs.Seats.{Waited}
use Rattle.bc_seats.proofs.Between.{seen_alike}
use Rattle.bc_hand.specs.declared.error.StepError.{StepError}
use Rattle.bc_hand.proofs.Between.{did_between}
use Rattle.bc_deed.specs.Asked.{HasClaimed, IsClaim, IsHalted, IsTaken, size_of}
use Rattle.bc_deed.proofs.May.{low, size_at, can_alone}

-- ---- lists of claims

not_or : (a b : Bool) → (a || b) ≡ false → (a ≡ false) × (b ≡ false)
not_or false b is = (refl, is)
not_or true b is = absurd (cc)

same_claim : (a b : FlightClaim) → Some a ≡ Some b → a ≡ b
same_claim a b is = cc

none_conflicts : (c : FlightClaim) (cs : List FlightClaim) (n : ℕ) (o : FlightClaim)
    → claim_of n cs ≡ Some o → conflicts_any c cs ≡ false → conflicts c o ≡ false
none_conflicts c [] n o is off = absurd (cc)
none_conflicts c (x ∷ xs) n o is off =
    let both = not_or (conflicts c x) (conflicts_any c xs) off in
    by_test x.seat n (λ b. (if b then Some x else claim_of n xs) ≡ Some o → conflicts c o ≡ false)
    (λ same at. subst (λ y. conflicts c y ≡ false) (same_claim x o at) both.0)
    (λ other at. none_conflicts c xs n o at both.1) is

push_old : (n : ℕ) (cs : List FlightClaim) (c : FlightClaim) → c.seat ≢ n
    → claim_of n (cs ++ c ∷ []) ≡ claim_of n cs
push_old n [] c ne = by_test c.seat n (λ b. (if b then Some c else None) ≡ None)
    (λ is. absurd (ne is)) (λ no. refl)
push_old n (x ∷ xs) c ne = by_test x.seat n
    (λ b. (if b then Some x else claim_of n (xs ++ c ∷ [])) ≡ (if b then Some x else claim_of n xs))
    (λ is. refl) (λ no. push_old n xs c ne)

push_new : (n : ℕ) (cs : List FlightClaim) (c : FlightClaim) → c.seat ≡ n → claim_of n cs ≡ None
    → claim_of n (cs ++ c ∷ []) ≡ Some c
push_new n [] c is none = by_test c.seat n (λ b. (if b then Some c else None) ≡ Some c)
    (λ same. refl) (λ no. absurd (no is))
push_new n (x ∷ xs) c is none = by_test x.seat n
    (λ b. (if b then Some x else claim_of n xs) ≡ None
    → (if b then Some x else claim_of n (xs ++ c ∷ [])) ≡ Some c)
    (λ same at. absurd (cc)) (λ no at. push_new n xs c is at) none

gone_own : (n : ℕ) (cs : List FlightClaim) → claim_of n (without n cs) ≡ None
gone_own n [] = refl
gone_own n (x ∷ xs) = by_test x.seat n
    (λ b. claim_of n (if b then without n xs else x ∷ without n xs) ≡ None)
    (λ is. gone_own n xs)
    (λ no. by_test x.seat n (λ b. (if b then Some x else claim_of n (without n xs)) ≡ None)
    (λ is. absurd (no is)) (λ other. gone_own n xs))

gone_other : (n i : ℕ) (cs : List FlightClaim) → i ≢ n → claim_of n (without i cs) ≡ claim_of n cs
gone_other n i [] ne = refl
gone_other n i (x ∷ xs) ne = by_test x.seat i
    (λ b. claim_of n (if b then without i xs else x ∷ without i xs) ≡ claim_of n (x ∷ xs))
    (λ is. gone_other n i xs ne
    ∙ sym (by_test x.seat n (λ b. (if b then Some x else claim_of n xs) ≡ claim_of n xs)
    (λ same. absurd (ne (sym is ∙ same))) (λ no. refl)))
    (λ no. by_test x.seat n (λ b. (if b then Some x else claim_of n (without i xs))
    ≡ (if b then Some x else claim_of n xs)) (λ same. refl) (λ other. gone_other n i xs ne))

-- ---- what may be claimed

share_back : (how : Share) → share_of (is_exclusive how) ≡ how
share_back Shared = refl
share_back Exclusive = refl

same_alone : (how : Share) → alone how ≡ is_exclusive how
same_alone Shared = refl
same_alone Exclusive = refl

alone_back : (b : Bool) → alone (share_of b) ≡ b
alone_back true = refl
alone_back false = refl

apart_by : (i first count k : ℕ) (how : Share) (c : Claim)
    → conflicts (claim_at i first count how) (claim_at k c.first c.count (share_of c.exclusive)) ≡ false
    → Apart (new_claim first count (is_exclusive how)) c
apart_by i first count k how c off = go (nat_lt first (c.first + c.count)) (nat_lt c.first (first + count)) refl refl off
  where
    shares : (alone how || alone (share_of c.exclusive)) ≡ false → Apart (new_claim first count (is_exclusive how)) c
    shares is = let both = not_or (alone how) (alone (share_of c.exclusive)) is in
        inl (sym (same_alone how) ∙ both.0, sym (alone_back c.exclusive) ∙ both.1)

    go : (p q : Bool) → nat_lt first (c.first + c.count) ≡ p → nat_lt c.first (first + count) ≡ q
        → ((p && q) && (alone how || alone (share_of c.exclusive))) ≡ false
        → Apart (new_claim first count (is_exclusive how)) c
    go true true ps qs is = shares is
    go false q ps qs is = inr (λ s a b. let a0 = a.0 in let b1 = b.1 in
        let yes_ = lt-ltb first (c.first + c.count) (omega arith) in absurd (cc (ps, yes_)))
    go true false ps qs is = inr (λ s a b. let a1 = a.1 in let b0 = b.0 in
        let yes_ = lt-ltb c.first (first + count) (omega arith) in absurd (cc (qs, yes_)))

apart_of : (f : InFlight) (x : World) (i first count k : ℕ) (how : Share) → IsFlightOf f x
    → conflicts_any (claim_at i first count how) f.claims ≡ false
    → Apart (new_claim first count (is_exclusive how)) ((data_of x).seats k).claim
apart_of f x i first count k how on off = let c = ((data_of x).seats k).claim in
    by_test c.count 0 (λ b. claim_of k f.claims
    ≡ (if b then None else Some (claim_at k c.first c.count (share_of c.exclusive)))
    → Apart (new_claim first count (is_exclusive how)) c)
    (λ is at. inr (λ s a b. let b0 = b.0 in let b1 = b.1 in absurd (omega arith)))
    (λ no at. apart_by i first count k how c (none_conflicts (claim_at i first count how) f.claims k
    (claim_at k c.first c.count (share_of c.exclusive)) at off))
    (on.claims k)

module _ {C B : Type 0} (cache_facts : C → DiskFacts) (backing_facts : B → DiskFacts) where
  held_flight : (v : View cache_facts backing_facts) (f : InFlight) (x y : World) (d : Deed)
      → Holds v.parts 1 → IsFlight f (world cache_facts backing_facts v)
      → AtDeed cache_facts backing_facts v d x y → IsFlightOf f y
  held_flight v f x y d holds on at = (at.stand 1 (part.Flight f) holds (refl, on)).1 y at.view

  -- in a plain run all sectors lie in one leaf
  same_leaf : (x y : World) (first s : ℕ) → IsBare y.opening.machine.flow (data_of y) → y ≡ x
      → ((t : ℕ) → x.opening.machine.flow.books.leaf t ≡ 0)
      → (data_of y).books.index.leaf s ≡ (data_of y).books.index.leaf first
  same_leaf x y first s bare is all = ap (λ (i : Index). i.leaf s) bare.index
      ∙ ap (λ (z : World). z.opening.machine.flow.books.leaf s) is ∙ all s ∙ sym (all first)
      ∙ sym (ap (λ (z : World). z.opening.machine.flow.books.leaf first) is)
      ∙ sym (ap (λ (i : Index). i.leaf first) bare.index)

  pub may_claim : (v : View cache_facts backing_facts) (f : InFlight) (first count : ℕ) (how : Share)
      → IsCoreSeat cache_facts backing_facts v → Holds v.parts 1
      → IsFlight f (world cache_facts backing_facts v) → (note cache_facts backing_facts v).range.count ≡ 0
      → 1 ≤ count → first + count ≤ size_of cache_facts backing_facts v.run.start
      → conflicts_any (claim_at v.first first count how) f.claims ≡ false
      → MayDo cache_facts backing_facts v (deed.Claim first count how)
  may_claim v f first count how seat holds on none some inside off = λ x y at told. record {
    enabled = go x y at told y.opening.machine.flow.plain refl;
    names = tt;
    number = tt;
  }
    where
      claims : (x y : World) → AtDeed cache_facts backing_facts v (deed.Claim first count how) x y
          → flow_ask.IsEnabled y.opening.machine.flow (data_of y) v.first
          (flow.MakeClaim first count (is_exclusive how))
      claims x y at = record {
        heard = at.running refl;
        steps = tt;
        can = record {
          none = ap (λ r. r.count) at.note.range ∙ none;
          inside = subst (λ n. first + count ≤ n)
              (sym (size_at cache_facts backing_facts v (deed.Claim first count how) x y at)) inside;
          apart = λ k ne. apart_of f y v.first first count k how
              (held_flight v f x y (deed.Claim first count how) holds on at) off;
        };
      }

      go : (x y : World) → AtDeed cache_facts backing_facts v (deed.Claim first count how) x y
          → is_told y ≡ true → (plain : Bool) → y.opening.machine.flow.plain ≡ plain
          → CanDo y.opening y.now (by v.first (deed.Claim first count how))
          (claimed y.opening.machine.flow.plain ((data_of y).books.index.leaf first) first count (is_exclusive how))
      go x y at told false is = subst (λ b. CanDo y.opening y.now (by v.first (deed.Claim first count how))
          (claimed b ((data_of y).books.index.leaf first) first count (is_exclusive how))) (sym is) (record {
            seat = lt-ltb v.first 320 (low cache_facts backing_facts v seat);
            course = (record { data_allows = (claims x y at, tt); asks = refl }, tt);
            fit = some;
            its_line = tt;
            plain = λ _. (tt, tt);
          })
      go x y at told true is = subst (λ b. CanDo y.opening y.now (by v.first (deed.Claim first count how))
          (claimed b ((data_of y).books.index.leaf first) first count (is_exclusive how))) (sym is) (record {
            seat = lt-ltb v.first 320 (low cache_facts backing_facts v seat);
            course = (
              record { data_allows = (claims x y at, tt); asks = refl },
              (
                record {
                  data_allows = (
                    record {
                      heard = at.running refl;
                      steps = tt;
                      can = λ s covers. same_leaf x y first s (at.bare told is)
                          (plain_view x y (is_plain_at cache_facts backing_facts v x at.since
                          ∙ sym at.plain ∙ is) at.view)
                          (λ t. ap (λ (o : Opening). o.machine.flow.books.leaf t)
                          (opening_seen cache_facts backing_facts v x at.since));
                    },
                    tt,
                  );
                  asks = refl;
                },
                tt,
              ),
            );
            fit = some;
            its_line = tt;
            plain = λ _. (tt, (tt, tt));
          })

  pub may_release : (v : View cache_facts backing_facts) → IsCoreSeat cache_facts backing_facts v
      → MayDo cache_facts backing_facts v deed.Release
  may_release v seat = λ x y at told. can_alone y v.first deed.Release flow.Release
      (low cache_facts backing_facts v seat) refl refl (record { heard = tt; steps = tt; can = tt }) tt tt tt tt

-- ---- behind a claim, and its release

abbrev in_range : ℕ → Range → Option FlightClaim
in_range n r = if r.count == 0 then None else Some (claim_at n r.first r.count (share_of r.exclusive))

none_in : (n : ℕ) (r : Range) → r.count ≡ 0 → in_range n r ≡ None
none_in n r is = by_test r.count 0 (λ b. (if b then None else Some (claim_at n r.first r.count (share_of r.exclusive))) ≡ None)
    (λ same. refl) (λ no. absurd (no is))

some_in : (n first count : ℕ) (how : Share) → 1 ≤ count
    → in_range n (record { first = first; count = count; exclusive = is_exclusive how })
    ≡ Some (claim_at n first count how)
some_in n first count how some = by_test count 0
    (λ b. (if b then None else Some (claim_at n first count (share_of (is_exclusive how)))) ≡ Some (claim_at n first count how))
    (λ is. absurd (omega arith)) (λ no. ap (λ h. Some (claim_at n first count h)) (share_back how))

-- of other seats
others_stay : (x : World) (d : Deed) (i n : ℕ) → i ≢ n
    → claim_in n ((data_of (after x (by i d))).seats n).claim ≡ claim_in n ((data_of x).seats n).claim
others_stay x d i n ne = ap (in_range n) (other_event x (by i d) n ne).0.range

own_is : (x : World) (d : Deed) (i : ℕ) → claim_in i ((data_of (after x (by i d))).seats i).claim
    ≡ in_range i (note_after x.opening.machine.flow.plain (note_of x i) d).range
own_is x d i = ap (λ o. in_range i o.range) (note_event x (by i d))

-- ---- behind a claim, and its release, of candidates

-- an exclusive claim kills those of its sectors
abbrev killed_by : ℕ → ℕ → Bool → Kept → Kept
killed_by first count exclusive x = record x {
  alive = if exclusive && overlap first count x.first x.count then false else x.alive;
}

claim_kills : (x : World) (i first count : ℕ) (how : Share) (n : ℕ)
    → kept_of ((data_of (after x (by i (deed.Claim first count how)))).candidates n)
    ≡ killed_by first count (is_exclusive how) (kept_of ((data_of x).candidates n))
claim_kills x i first count how n = go x.opening.machine.flow.plain
  where
    go : (plain : Bool) → kept_of ((machine.run x.opening.machine x.now.machine
        (core.by i (claimed plain ((data_of x).books.index.leaf first) first count
        (is_exclusive how)))).whole.flow.candidates n)
        ≡ killed_by first count (is_exclusive how) (kept_of ((data_of x).candidates n))
    go false = refl
    go true = refl

-- of two runs that have a sector each, both say whether they have one in common
over_is : (first count start size end : ℕ) → 1 ≤ count → 0 < size → start + size ≡ end
    → nat_lt (max first start) (min (first + count) end) ≡ overlap first count start size
over_is first count start size end some more is =
    go (leb_tells (suc first) (start + size)) (leb_tells (suc start) (first + count))
  where
    go : ((nat_le (suc first) (start + size) ≡ true) × (suc first ≤ start + size))
        ⊎ ((nat_le (suc first) (start + size) ≡ false) × (start + size < suc first))
        → ((nat_le (suc start) (first + count) ≡ true) × (suc start ≤ first + count))
        ⊎ ((nat_le (suc start) (first + count) ≡ false) × (first + count < suc start))
        → nat_lt (max first start) (min (first + count) end) ≡ overlap first count start size
    go (inl p) (inl q) = let a = p.1 in let b = q.1 in
        lt-ltb (max first start) (min (first + count) end) (omega (arith, some, more, is, a, b))
        ∙ sym (ap (λ t. t && nat_le (suc start) (first + count)) p.0 ∙ q.0)
    go (inl p) (inr q) = let a = p.1 in let b = q.1 in
        le-ltb (max first start) (min (first + count) end) (omega (arith, some, more, is, a, b))
        ∙ sym (ap (λ t. t && nat_le (suc start) (first + count)) p.0 ∙ q.0)
    go (inr p) q = let a = p.1 in
        le-ltb (max first start) (min (first + count) end) (omega (arith, some, more, is, a))
        ∙ sym (ap (λ t. t && nat_le (suc start) (first + count)) p.0)

killed_one : (first count : ℕ) (k : Kept) (c : Candidate) → 1 ≤ count → IsCandidateOf k c
    → IsCandidateOf (killed_by first count true k) (killed_over first count c)
killed_one first count k c some h = go (is_over first count c) refl
  where
    same : overlap first count k.first k.count ≡ is_over first count c
    same = ap (λ n. overlap first count n k.count) h.first
        ∙ ap (λ n. overlap first count (start_of c.key) n) h.count
        ∙ sym (over_is first count (start_of c.key) c.key.size c.key.end some h.some
        (let inside = h.inside in omega (arith, inside)))

    go : (b : Bool) → is_over first count c ≡ b
        → IsCandidateOf (record k { alive = if overlap first count k.first k.count then false else k.alive })
        (if b then record c { killed = true } else c)
    go true is = record {
      stands = h.stands;
      alive = ap (λ t. if t then false else k.alive) (same ∙ is);
      first = h.first;
      count = h.count;
      some = h.some;
      inside = h.inside;
      place = h.place;
    }
    go false is = record {
      stands = h.stands;
      alive = ap (λ t. if t then false else k.alive) (same ∙ is) ∙ h.alive;
      first = h.first;
      count = h.count;
      some = h.some;
      inside = h.inside;
      place = h.place;
    }

number_killed : (first count : ℕ) (c : Candidate) → (killed_over first count c).number ≡ c.number
number_killed first count c = go (is_over first count c)
  where
    go : (b : Bool) → (if b then record c { killed = true } else c).number ≡ c.number
    go true = refl
    go false = refl

each_killed : (first count : ℕ) (cs : List Candidate) (kept : ℕ → Kept) → 1 ≤ count → EachIsOf kept cs
    → EachIsOf (λ n. killed_by first count true (kept n)) (kill_over first count cs)
each_killed first count [] kept some h = tt
each_killed first count (c ∷ cs) kept some h = (
  subst (λ n. IsCandidateOf (killed_by first count true (kept n)) (killed_over first count c))
      (sym (number_killed first count c)) (killed_one first count (kept c.number) c some h.0),
  each_killed first count cs kept some h.1,
)

among_killed : (first count : ℕ) (cs : List Candidate) (n : ℕ) → IsAmong n cs
    → IsAmong n (kill_over first count cs)
among_killed first count [] n h = h
among_killed first count (c ∷ cs) n (inl is) = inl (number_killed first count c ∙ is)
among_killed first count (c ∷ cs) n (inr h) = inr (among_killed first count cs n h)

-- what a claim leaves of the candidates, in the part and in the core
candidates_claimed : (i first count : ℕ) (how : Share) (cs : List Candidate) (kept : ℕ → Kept)
    → 1 ≤ count → AreCandidatesOf cs kept
    → AreCandidatesOf (after_claim (claim_at i first count how) cs)
    (λ n. killed_by first count (is_exclusive how) (kept n))
candidates_claimed i first count Shared cs kept some h = record { each = h.each; all = h.all }
candidates_claimed i first count Exclusive cs kept some h = record {
  each = each_killed first count cs kept some h.each;
  all = λ n stands. among_killed first count cs n (h.all n stands);
}

pub flight_claimed : (f g : InFlight) (x : World) (i first count : ℕ) (how : Share) → IsFlightOf f x
    → g.seats ≡ f.seats → g.claims ≡ f.claims ++ claim_at i first count how ∷ []
    → g.candidates ≡ after_claim (claim_at i first count how) f.candidates → g.next ≡ f.next
    → (note_of x i).range.count ≡ 0 → 1 ≤ count
    → IsFlightOf g (after x (by i (deed.Claim first count how)))
flight_claimed f g x i first count how on seats claims candidates next none some = record {
  seats = seats ∙ on.seats;
  claims = λ n. ap (claim_of n) claims ∙ by_test i n
      (λ b. claim_of n (f.claims ++ claim_at i first count how ∷ [])
      ≡ claim_in n ((data_of (after x (by i (deed.Claim first count how)))).seats n).claim)
      (λ is. subst (λ k. claim_of k (f.claims ++ claim_at i first count how ∷ [])
      ≡ claim_in k ((data_of (after x (by i (deed.Claim first count how)))).seats k).claim) is
      (push_new i f.claims (claim_at i first count how) refl
      (on.claims i ∙ none_in i (note_of x i).range none)
      ∙ sym (own_is x (deed.Claim first count how) i ∙ some_in i first count how some)))
      (λ ne. push_old n f.claims (claim_at i first count how) ne ∙ on.claims n
      ∙ sym (others_stay x (deed.Claim first count how) i n ne));
  candidates = subst (λ cs. AreCandidatesOf cs
      (λ n. kept_of ((data_of (after x (by i (deed.Claim first count how)))).candidates n)))
      (sym candidates)
      (candidates_stay (after_claim (claim_at i first count how) f.candidates)
      (λ n. killed_by first count (is_exclusive how) (kept_of ((data_of x).candidates n))) _
      (claim_kills x i first count how)
      (candidates_claimed i first count how f.candidates
      (λ n. kept_of ((data_of x).candidates n)) some on.candidates));
  next = next ∙ on.next;
}

pub flight_released : (f g : InFlight) (x : World) (i : ℕ) → IsFlightOf f x → g.seats ≡ f.seats
    → g.claims ≡ without i f.claims → g.candidates ≡ f.candidates → g.next ≡ f.next
    → IsFlightOf g (after x (by i deed.Release))
flight_released f g x i on seats claims candidates next = record {
  seats = seats ∙ on.seats;
  claims = λ n. ap (claim_of n) claims ∙ by_test i n
      (λ b. claim_of n (without i f.claims)
      ≡ claim_in n ((data_of (after x (by i deed.Release))).seats n).claim)
      (λ is. subst (λ k. claim_of k (without i f.claims)
      ≡ claim_in k ((data_of (after x (by i deed.Release))).seats k).claim) is
      (gone_own i f.claims ∙ sym (own_is x deed.Release i)))
      (λ ne. gone_other n i f.claims ne ∙ on.claims n ∙ sym (others_stay x deed.Release i n ne));
  candidates = subst (λ cs. AreCandidatesOf cs (λ n. kept_of ((data_of x).candidates n)))
      (sym candidates) on.candidates;
  next = next ∙ on.next;
}

module _ {C B : Type 0} (cache_facts : C → DiskFacts) (backing_facts : B → DiskFacts) where
  pub committed_flight : (v w : View cache_facts backing_facts) (f g : InFlight) (d : Deed)
      → Holds v.parts 1 → IsFlight f (world cache_facts backing_facts v)
      → Did cache_facts backing_facts (Some d) v w
      → ((x : World) → IsFlightOf f x → IsFirmer (note cache_facts backing_facts v) (note_of x v.first)
      → IsFlightOf g (after x (by v.first d)))
      → IsCoreSeat cache_facts backing_facts v
      → IsFlight g (world cache_facts backing_facts w)
  committed_flight v w f g d holds on did step seat = subst (IsFlight g) (sym did.is.state)
      (leads_each did.is.before (by v.first d) (IsFlightOf f) (IsFlightOf g)
      (λ y view on. step y on (note_since cache_facts backing_facts v did.is.before y seat.seat.live did.is.since view))
      (held (m cache_facts backing_facts) (framed cache_facts backing_facts) v did.is.before 1
      (part.Flight f) seat.seat did.is.since holds (refl, on)).1)

  -- a seat that noted no claim has none in the part
  pub no_claim : (v : View cache_facts backing_facts) (f : InFlight) (i : ℕ) → i ≡ v.first
      → IsCoreSeat cache_facts backing_facts v → IsFlight f (world cache_facts backing_facts v)
      → (note cache_facts backing_facts v).range.count ≡ 0 → claim_of i f.claims ≡ None
  no_claim v f i is seat on none = ap (λ n. claim_of n f.claims) is
      ∙ (on (world cache_facts backing_facts v) (inl refl)).claims v.first
      ∙ none_in v.first (note_of (world cache_facts backing_facts v) v.first).range
      (ap (λ r. r.count) (note_seen cache_facts backing_facts v seat).range ∙ none)

  -- a claim that the seat noted stands in the part
  pub its_claim : (v : View cache_facts backing_facts) (f : InFlight) (c : FlightClaim)
      → IsCoreSeat cache_facts backing_facts v → IsFlight f (world cache_facts backing_facts v)
      → IsClaim c v.first (note cache_facts backing_facts v).range → claim_of c.seat f.claims ≡ Some c
  its_claim v f c seat on its = ap (λ n. claim_of n f.claims) its.its_seat
      ∙ (on (world cache_facts backing_facts v) (inl refl)).claims v.first
      ∙ ap (in_range v.first) ((note_seen cache_facts backing_facts v seat).range ∙ its.range)
      ∙ ap (λ b. in_range v.first (record { first = c.first; count = c.count; exclusive = b })) (same_alone c.share)
      ∙ some_in v.first c.first c.count c.share its.some
      ∙ ap (λ n. Some (claim_at n c.first c.count c.share)) (sym its.its_seat)

  -- one that conflicts with what was asked for is another seat's
  pub claim_taken : (v : View cache_facts backing_facts) (f : InFlight) (i first count : ℕ) (how : Share)
      → i ≡ v.first → IsFlight f (world cache_facts backing_facts v)
      → HasConflict (claim_at i first count how) f.claims
      → IsTaken (claim_at v.first first count how) (world cache_facts backing_facts v)
  claim_taken v f i first count how is on taken = subst (λ n. IsTaken (claim_at n first count how)
      (world cache_facts backing_facts v)) is (
        taken.0.seat,
        taken.0,
        sym ((on (world cache_facts backing_facts v) (inl refl)).claims taken.0.seat) ∙ taken.1,
        taken.2,
      )

  pub waited_flight : (v w : View cache_facts backing_facts) (f : InFlight)
      → IsCoreSeat cache_facts backing_facts v → Holds v.parts 1
      → IsFlight f (world cache_facts backing_facts v) → Did cache_facts backing_facts None v w
      → IsFlight f (world cache_facts backing_facts w)
  waited_flight v w f seat holds on did = (held (m cache_facts backing_facts) (framed cache_facts backing_facts) v
      (world cache_facts backing_facts w) 1 (part.Flight f) seat.seat did.is.since holds (refl, on)).1

  pub not_taken : (b : Bool) → (b ≡ true → ⊥) → b ≡ false
  not_taken false h = refl
  not_taken true h = absurd (h refl)

  -- ---- between borrowing the part and returning it

  pub claimed_between : (done : Bool) (first count : ℕ) (how : Share)
      (u v w x : View cache_facts backing_facts) → ((k : ℕ) → Holds u.parts k → Holds v.parts k)
      → Waited (m cache_facts backing_facts) u v
      → HasClaimed cache_facts backing_facts done first count how v w
      → Waited (m cache_facts backing_facts) w x → x.seen ≡ w.seen → x.heard ≡ w.heard
      → IsCoreSeat cache_facts backing_facts x
      → HasClaimed cache_facts backing_facts done first count how u x
  claimed_between true first count how u v w x still before h last seen told seat =
      did_between cache_facts backing_facts (Some (deed.Claim first count how)) u v w x still before h last seen told seat
  claimed_between false first count how u v w x still before h last seen told seat = (
    did_between cache_facts backing_facts None u v w x still before h.0 last seen told seat,
    subst (IsTaken (claim_at u.first first count how))
        (sym (seen_alike (m cache_facts backing_facts) w x last.same seen))
        (subst (λ n. IsTaken (claim_at n first count how) (world cache_facts backing_facts w)) before.same.first h.1),
  )

  pub halted_between : (error : StepError) (u v w x : View cache_facts backing_facts)
      → ((k : ℕ) → Holds u.parts k → Holds v.parts k) → Waited (m cache_facts backing_facts) u v
      → IsHalted error w.seen × Did cache_facts backing_facts None v w
      → Waited (m cache_facts backing_facts) w x → x.seen ≡ w.seen → x.heard ≡ w.heard
      → IsCoreSeat cache_facts backing_facts x
      → IsHalted error x.seen × Did cache_facts backing_facts None u x
  halted_between error u v w x still before h last seen told seat = (
    subst (IsHalted error) (sym seen) h.0,
    did_between cache_facts backing_facts None u v w x still before h.1 last seen told seat,
  )
