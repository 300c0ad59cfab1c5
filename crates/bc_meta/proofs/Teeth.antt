-- Runs after which one act too early leaves an image that doesn't read.
use Rattle.std.proofs.Common.{◌≡◌, ◌≢◌, ◌⊎◌, inl, inr, ℕ, zero, suc, List, [], ◌∷◌, ◌++◌, Option, Some, None, refl, sym, ap, subst, arith, if◌then◌else◌, true, false, ◌<◌, ◌+◌, ◌*◌, ◌∙◌}
use Rattle.bc_model.specs.Sector.{Image, Value, at_run}
use Rattle.bc_disk.specs.Device.{Among, Content, MayLeave, besides, failed, instead, quiet, written}
use Rattle.bc_meta.specs.Facts.{In}
use Rattle.bc_meta.specs.Entries.{AreEntries, Entry}
use Rattle.bc_meta.specs.Layout.{ring_entries, entry_at}
use Rattle.bc_meta.specs.Example.{NeedsBarrier, NeedsReady, NeedsZeros}
use Rattle.bc_meta.proofs.Lists.{by_test, by_le}
use Rattle.bc_meta.proofs.Example.{layout, opening, picture, first_entry, second_entry, building, sealing, begun, start, sealed_to, can_build, can_seal, leaf_values, run_on, sound_opening, first_values, last_values, built_to, new_owner, new_leaf, put_no, put_yes, each_below, entry_read, one_of, first_write}
use Rattle.bc_meta.specs.Records.{MayStand}
use Rattle.bc_meta.specs.Events.{Barrier}
use Rattle.bc_meta.specs.Acts.{Plain, State, WriteNode, fold}

-- ---- an entry before its barrier

kept : (o : Option Value) (v : Value) (old : List Value) → Among v old → Among v (besides o old)
kept None v old i = i
kept (Some x) v old i = inr i

-- the entry was written, and nothing else
abbrev early : Image
early zero = 1 ∷ []
early (suc zero) = 2 ∷ []
early (suc (suc n)) = picture (suc (suc n))

early_same : (s : ℕ) → 1 ≢ s → early s ≡ picture s
early_same zero ne = refl
early_same (suc zero) ne = absurd (ne refl)
early_same (suc (suc n)) ne = refl

-- the device call by call
abbrev d1 : Content
d1 = failed 21 ((9 ∷ []) ∷ []) (quiet picture)

abbrev d2 : Content
d2 = written 20 first_values d1

abbrev d3 : Content
d3 = written 24 last_values d2

abbrev d4 : Content
d4 = written 33 leaf_values d3

opening_left : (s : ℕ) → Among (picture s) ((sealed_to 1).places.device.leaves s)
opening_left s =
    kept (at_run 28 ((77 ∷ []) ∷ []) s) (picture s) (d4.leaves s)
    (kept (at_run 33 leaf_values s) (picture s) (d3.leaves s)
    (kept (at_run 24 last_values s) (picture s) (d2.leaves s)
    (kept (at_run 20 first_values s) (picture s) (d1.leaves s)
    (kept (at_run 21 ((9 ∷ []) ∷ []) s) (picture s) (picture s ∷ []) (inl refl)))))

early_left : MayLeave (written 1 ((2 ∷ []) ∷ []) (sealed_to 1).places.device) early
early_left s = by_test 1 s (λ b. Among (early s) (besides (if b then Some (2 ∷ []) else None) ((sealed_to 1).places.device.leaves s)))
    (λ e. inl (ap early (sym e))) (λ ne. subst (λ (v : Value). Among v ((sealed_to 1).places.device.leaves s)) (sym (early_same s ne)) (opening_left s))

both : (x : Entry) → In x (second_entry ∷ first_entry ∷ []) → (x ≡ second_entry) ⊎ (x ≡ first_entry)
both x (inl e) = inl e
both x (inr (inl e)) = inr e
both x (inr (inr n)) = absurd n

numbered : (x y : Entry) → x ≡ y → x.number ≡ y.number
numbered x y e = ap (λ (z : Entry). z.number) e

early_found : AreEntries (ring_entries layout early 2) second_entry (first_entry ∷ [])
early_found = record {
  greatest = λ x i. elim (both x i) [ inl e ↦ (let n = numbered x second_entry e in omega arith) | inr e ↦ (let n = numbered x first_entry e in omega arith) ];
  down = (
    refl,
    (omega arith),
    inl refl,
    (λ x i n. elim (both x i) [ inl e ↦ e | inr e ↦ (let m = numbered x first_entry e in absurd (omega arith)) ]),
    (refl, (omega arith), inr (inl refl), (λ x i n. elim (both x i) [ inl e ↦ (let m = numbered x second_entry e in absurd (omega arith)) | inr e ↦ e ]), refl),
  );
}

pub needs_barrier : NeedsBarrier
needs_barrier = (
  layout,
  opening,
  building ++ begun 1 sealing,
  (2 ∷ []) ∷ [],
  (
    early,
    record {
      sound = sound_opening;
      run = run_on start building (begun 1 sealing) can_build (can_seal.0, tt);
      fixed = refl;
      enter = (refl, (omega arith));
      left = early_left;
      older = first_entry ∷ [];
      found = early_found;
      lost = λ whole. whole refl;
    },
  ),
)

-- ---- a bucket of a chain before it is given up

abbrev first_of : List Value → Value
first_of [] = []
first_of (v ∷ vs) = v

abbrev HasSome : List Value → Type 0
HasSome [] = ⊥
HasSome (v ∷ vs) = Unit {0}

first_in : (vs : List Value) → HasSome vs → Among (first_of vs) vs
first_in [] h = absurd h
first_in (v ∷ vs) h = inl refl

some_instead : (o : Option Value) (old : List Value) → HasSome old → HasSome (instead o old)
some_instead None old h = h
some_instead (Some v) old h = tt

some_besides : (o : Option Value) (old : List Value) → HasSome old → HasSome (besides o old)
some_besides None old h = h
some_besides (Some v) old h = tt

abbrev reused : Content
reused = written 12 ((9 ∷ []) ∷ []) (sealed_to 2).places.device

-- the last value of each sector
abbrev latest : Image
latest s = first_of (reused.leaves s)

reused_left : MayLeave reused latest
reused_left s =
    first_in (reused.leaves s)
    (some_besides (at_run 12 ((9 ∷ []) ∷ []) s) ((sealed_to 2).places.device.leaves s)
    (some_instead (at_run 28 ((77 ∷ []) ∷ []) s) (d4.reads s)
    (some_instead (at_run 33 leaf_values s) (d3.reads s)
    (some_instead (at_run 24 last_values s) (d2.reads s)
    (some_instead (at_run 20 first_values s) (d1.reads s)
    (some_besides (at_run 21 ((9 ∷ []) ∷ []) s) (picture s ∷ []) tt))))))

one : (x : Entry) → In x (first_entry ∷ []) → x ≡ first_entry
one x (inl e) = e
one x (inr n) = absurd n

reused_found : AreEntries (ring_entries layout latest 2) first_entry []
reused_found = record { greatest = λ x i. let n = numbered x first_entry (one x i) in omega arith; down = (refl, (omega arith), inl refl, (λ x i n. one x i), refl) }

pub needs_ready : NeedsReady
needs_ready = (
  layout,
  opening,
  building ++ begun 2 sealing,
  3,
  (9 ∷ []) ∷ [],
  (
    latest,
    record {
      sound = sound_opening;
      run = run_on start building (begun 2 sealing) can_build (can_seal.0, (can_seal.1.0, tt));
      sealed = refl;
      old = inl refl;
      left = reused_left;
      newest = first_entry;
      older = [];
      found = reused_found;
      lost = refl;
    },
  ),
)

-- ---- a first set without zeros behind it

abbrev bare : State
bare = fold layout (built_to 6) (WriteNode 2 8 new_owner new_leaf ((200 ∷ 2 ∷ []) ∷ []) ∷ Plain Barrier ∷ [])

abbrev seen : Image
seen s = first_of (bare.places.device.leaves s)

seen_left : MayLeave bare.places.device seen
seen_left s =
    first_in (bare.places.device.leaves s)
    (some_instead (at_run 33 ((200 ∷ 2 ∷ []) ∷ []) s) (d3.reads s)
    (some_instead (at_run 24 last_values s) (d2.reads s)
    (some_instead (at_run 20 first_values s) (d1.reads s)
    (some_besides (at_run 21 ((9 ∷ []) ∷ []) s) (picture s ∷ []) tt))))

-- nothing was written in the journal
same_entry : (image : Image) (b at : ℕ) (e : Entry) → MayLeave bare.places.device image → b < 2 → entry_at layout image b at ≡ Some e → entry_at layout picture b at ≡ Some e
same_entry image b at e left lt =
    by_le (suc at) (4 * b + 4) (λ t. (if t then entry_read tt (image at) else None) ≡ Some e → (if t then entry_read tt (picture at) else None) ≡ Some e)
    (λ le h. ap (λ (v : Value). entry_read tt v) (sym (same at (omega arith) (left at))) ∙ h) (λ _ h. h)
  where
    Same : ℕ → Type 0
    Same at = Among (image at) (bare.places.device.leaves at) → image at ≡ picture at

    same : (at : ℕ) → at < 8 → Among (image at) (bare.places.device.leaves at) → image at ≡ picture at
    same at lt = each_below 8 Same (
      one_of (image 0) (picture 0),
      (one_of (image 1) (picture 1), (one_of (image 2) (picture 2), (one_of (image 3) (picture 3), (one_of (image 4) (picture 4), (one_of (image 5) (picture 5), (one_of (image 6) (picture 6), (one_of (image 7) (picture 7), tt))))))),
    ) at lt

no_true : false ≡ true → ⊥
no_true e = cc

-- and no set is under way
none_stands : (q : ℕ) → bare.places.own q ≡ true → MayStand (bare.places.records.nodes q) → ⊥
none_stands q own = subst (λ (n : ℕ). MayStand (bare.places.records.nodes n) → ⊥) (sym (put_yes _ (put_no _ 8 (put_no _ 6 (put_no _ 5 (put_no _ 5 (put_no _ 6 (put_no _ 5 (λ q e. absurd (no_true e)))))))) q own)) (λ m. elim m [ inl e ↦ no_true e | inr e ↦ no_true e ])

pub needs_zeros : NeedsZeros
needs_zeros = (
  layout,
  opening,
  begun 6 building,
  2,
  8,
  new_owner,
  new_leaf,
  (
    seen,
    record {
      values = leaf_values;
      first = first_write;
      sound = sound_opening;
      run = (can_build.0, (can_build.1.0, (can_build.1.1.0, (can_build.1.1.1.0, (can_build.1.1.1.1.0, (can_build.1.1.1.1.1.0, tt))))));
      allowed = can_build.1.1.1.1.1.1.0;
      last = bare;
      last_is = refl;
      chance = record {
        entries = λ image b at e left lt block found. inl (same_entry image b at e left lt found);
        sets = λ image q e left own known stand seq found. absurd (none_stands q own stand);
      };
      left = seen_left;
      wrong = λ may. elim (may 8) [ inl e ↦ no_true e | inr (inl e) ↦ absurd (cc) | inr (inr e) ↦ elim e.0 [ inl x ↦ no_true x | inr x ↦ no_true x ] ];
    },
  ),
)
