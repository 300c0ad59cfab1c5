-- What holds of every journal, kept by each call.
use Rattle.std.proofs.Common.{◌≡◌, ◌≢◌, ℕ, ◌+◌, ◌*◌, ◌^◌, ◌<◌, ◌≤◌, Bool, true, false, ◌&&◌, List, [], ◌∷◌, ◌++◌, length, refl, sym, subst, ap, ◌∙◌, arith}
use Rattle.std.specs.Prelude.{All, Option, Some, None, IsSome, nat_lt, nat_le, if◌then◌else◌}
use Rattle.std.proofs.lemmas.Bool.Decides.{nat_tests}
use Rattle.std.proofs.lemmas.List.{length-append}
use Rattle.std.proofs.lemmas.List.Elements.{All-append, All-set, All-nil}
use Rattle.std.proofs.lemmas.Grind.{flat_map-append}
use Rattle.bc_key.specs.Key.{IsExtent}
use Rattle.bc_key.specs.Words.{words_of}
use Rattle.bc_key.specs.declared.key.Key.{Key}
use Rattle.bc_jset.specs.EntryBytes.{IsLevel}
use Rattle.bc_keys.specs.Spelling.{words_of_all}
use Rattle.bc_keys.proofs.KeyLists.{length-words_of}
use Rattle.bc_journal.specs.Ring.{Ring, IsRing, is_free, may_begin, following, place_of, with_entry, sectors_for}
use Rattle.bc_journal.specs.Journal.{Journal, IsJournal, HasRoom, Follows, number_of, numbers_now, newest_of, waiting_words, place_for}
use Rattle.bc_journal.specs.declared.heads.Heads.{Heads}
use Rattle.bc_journal.specs.declared.place.Place.{Place}
use Rattle.bc_journal.specs.declared.place.Numbers.{Numbers}

-- ---- words of keys

pub words_append : (a b : List Key) → length (words_of_all (a ++ b)) ≡ length (words_of_all a) + length (words_of_all b)
words_append a b = ap length (flat_map-append words_of a b) ∙ length-append (words_of_all a) (words_of_all b)

-- each key is two words at least
pub words_two : (keys : List Key) → 2 * length keys ≤ length (words_of_all keys)
words_two [] = omega arith
words_two (k ∷ ks) =
    let here = length-append (words_of k) (words_of_all ks) in
    omega (arith, here, length-words_of k, words_two ks)

-- ---- the calls

some_is : (a b : Numbers) → Some a ≡ Some b → a ≡ b
some_is a b e = cc

abbrev pub with_waiting : Journal → List Key → Journal
with_waiting j keys = record { ring = j.ring; durable = j.durable; heads = j.heads; sealed = j.sealed; waiting = keys; needed = j.needed }

pub added : (j : Journal) (more : List Key) → IsJournal j → HasRoom j (length (words_of_all more)) → All IsExtent more → number_of j < 2 ^ 63
    → IsJournal (with_waiting j (j.waiting ++ more))
added j more p room extents numbered =
    let words = words_append j.waiting more in
    record {
      ring = p.ring;
      below = p.below;
      reaches = p.reaches;
      level = p.level;
      sealed = p.sealed;
      needed_from = p.needed_from;
      needed_to = p.needed_to;
      few = omega (arith, words, room.few);
      extents = All-append IsExtent j.waiting more p.extents extents;
      numbered = λ _. numbered;
      placed = λ _. subst (λ n. IsSome (place_for j n)) (sym words) room.place;
      newest = p.newest;
    }

pub sealed_so : (j : Journal) (place : Place) (sectors : ℕ) → IsJournal j → j.sealed ≡ None → number_of j ≢ 2 ^ 63 → IsRing (with_entry j.ring place sectors (number_of j))
    → IsJournal (record { ring = with_entry j.ring place sectors (number_of j); durable = j.durable; heads = j.heads; sealed = Some (numbers_now j); waiting = []; needed = j.needed })
sealed_so j place sectors p none not_end ring =
    let number : number_of j ≡ j.durable.seq + 1 = ap (λ (s : Option Numbers). newest_of j.durable s + 1) none in
    let below = p.below in
    let needed_to = p.needed_to in
    record {
      ring = ring;
      below = p.below;
      reaches = p.reaches;
      level = p.level;
      sealed = λ s is. subst (Follows j.durable j.needed) (some_is (numbers_now j) s is) (record {
        next = number;
        below = omega (arith, number, below, not_end);
        from = p.needed_from;
        to = p.needed_to;
        needed = omega arith;
      });
      needed_from = p.needed_from;
      needed_to = omega (arith, p.needed_to);
      few = omega arith;
      extents = All-nil IsExtent;
      numbered = λ some. absurd (omega (arith, some));
      placed = λ some. absurd (omega (arith, some));
      newest = All-set (λ n. n < number_of j + 1) j.ring.newest place.bucket (number_of j) (omega arith) (λ k d inside. (let old = p.newest k d inside in omega (arith, old)));
    }

pub sealed_as : (j : Journal) (place : Place) (sectors number : ℕ) (ring : Ring) (keys : List Key) → IsJournal j → j.sealed ≡ None → number ≡ number_of j → number ≢ 2 ^ 63
    → ring ≡ with_entry j.ring place sectors number → IsRing ring → keys ≡ []
    → IsJournal (record { ring = ring; durable = j.durable; heads = j.heads; sealed = Some (record { seq = number; last_seq = j.needed }); waiting = keys; needed = j.needed })
sealed_as j place sectors number ring keys p none is not_end put is_ring empty =
    let here : ring ≡ with_entry j.ring place sectors (number_of j) = put ∙ ap (λ n. with_entry j.ring place sectors n) is in
    let base = sealed_so j place sectors p none (λ e. not_end (is ∙ e)) (subst IsRing here is_ring) in
    let named = subst (λ n. IsJournal (record { ring = with_entry j.ring place sectors (number_of j); durable = j.durable; heads = j.heads; sealed = Some (record { seq = n; last_seq = j.needed }); waiting = []; needed = j.needed })) (sym is) base in
    let put_so = subst (λ (r : Ring). IsJournal (record { ring = r; durable = j.durable; heads = j.heads; sealed = Some (record { seq = number; last_seq = j.needed }); waiting = []; needed = j.needed })) (sym here) named in
    subst (λ (ks : List Key). IsJournal (record { ring = ring; durable = j.durable; heads = j.heads; sealed = Some (record { seq = number; last_seq = j.needed }); waiting = ks; needed = j.needed })) (sym empty) put_so

-- a bucket that is free stays so as more entries aren't needed
and_both : (a b : Bool) → (a && b) ≡ true → (a ≡ true) × (b ≡ true)
and_both true b h = (refl, h)
and_both false b h = absurd (cc)

both_and : (a b : Bool) → a ≡ true → b ≡ true → (a && b) ≡ true
both_and true b p q = q
both_and false b p q = p

free_more : (ring : Ring) (low high bucket : ℕ) → low ≤ high → is_free ring low bucket ≡ true → is_free ring high bucket ≡ true
free_more ring low high bucket up free = grind (arith, nat_tests)

begin_more : (ring : Ring) (low high : ℕ) (keyed : Bool) (bucket : ℕ) → low ≤ high → may_begin ring low keyed bucket ≡ true → may_begin ring high keyed bucket ≡ true
begin_more ring low high true bucket up may =
    let both = and_both (is_free ring low bucket) (is_free ring low (following ring.geometry bucket)) may in
    both_and (is_free ring high bucket) (is_free ring high (following ring.geometry bucket)) (free_more ring low high bucket up both.0) (free_more ring low high (following ring.geometry bucket) up both.1)
begin_more ring low high false bucket up may =
    let first = (and_both (is_free ring low bucket) true may).0 in
    both_and (is_free ring high bucket) true (free_more ring low high bucket up first) refl

-- a place that there is, where the buckets that may be begun stay so
pick_more : (here before after : Bool) (next front : Place) → (before ≡ true → after ≡ true) → IsSome (if here then Some next else (if before then Some front else None))
    → IsSome (if here then Some next else (if after then Some front else None))
pick_more true before after next front more some = some
pick_more false true after next front more some = subst (λ b. IsSome (if b then Some front else None)) (sym (more refl)) some
pick_more false false after next front more some = absurd (cc)

pub place_more : (ring : Ring) (low high : ℕ) (keyed : Bool) (sectors : ℕ) → low ≤ high → IsSome (place_of ring low keyed sectors) → IsSome (place_of ring high keyed sectors)
place_more ring low high keyed sectors up some =
    let bucket = following ring.geometry ring.next.bucket in
    pick_more (nat_le (ring.next.sector + sectors) ring.geometry.bucket) (may_begin ring low keyed bucket) (may_begin ring high keyed bucket) ring.next (record { bucket = bucket; sector = 0 })
    (begin_more ring low high keyed bucket up) some

no_such : (o : Option Numbers) (t : Numbers) → o ≡ None → o ≡ Some t → ⊥
no_such o t p q = absurd (cc)

pub written_so : (j : Journal) (s : Numbers) (heads : Heads) → IsJournal j → j.sealed ≡ Some s → IsLevel heads.level
    → IsJournal (record { ring = j.ring; durable = s; heads = heads; sealed = None; waiting = j.waiting; needed = j.needed })
written_so j s heads p is level =
    let follows = p.sealed s is in
    let number : number_of j ≡ s.seq + 1 = ap (λ (o : Option Numbers). newest_of j.durable o + 1) is in
    record {
      ring = p.ring;
      below = follows.below;
      reaches = follows.to;
      level = level;
      sealed = λ t some. elim (no_such None t refl some) [ ];
      needed_from = follows.needed;
      needed_to = subst (λ n. j.needed ≤ n) number p.needed_to;
      few = p.few;
      extents = p.extents;
      numbered = λ some. subst (λ n. n < 2 ^ 63) number (p.numbered some);
      placed = λ some. place_more j.ring j.durable.last_seq s.last_seq (nat_lt 0 (waiting_words j)) (sectors_for j.ring.geometry (waiting_words j)) follows.from (p.placed some);
      newest = subst (λ m. All (λ n. n < m) j.ring.newest) number p.newest;
    }
