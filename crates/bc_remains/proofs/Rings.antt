-- Where each entry stands that still counts, over every run: in one place of one journal bucket.
use Rattle.std.proofs.Common.{subst, ◌≡◌, ◌≢◌, ◌⊎◌, inl, inr, ℕ, suc, ◌+◌, ◌<◌, ◌≤◌, List, [], ◌∷◌, Option, Some, None, refl, sym, ap, ◌∙◌, arith, if◌then◌else◌}
use Rattle.bc_model.specs.Sector.{Image}
use Rattle.bc_meta.specs.Facts.{In, IsAtBlock, Stand}
use Rattle.bc_meta.specs.Entries.{Entry}
use Rattle.bc_meta.specs.Layout.{Layout, entry_at, entry_len}
use Rattle.bc_meta.specs.Events.{Event, BeginBucket, SealEntry, WriteEntry, FailEntry, MakeDurable, Barrier}
use Rattle.bc_meta.specs.Records.{Stage, Nothing, Fixed, Ready, Sent, Safe, after_barrier, put}
use Rattle.bc_meta.specs.Places.{CanHappen, Places, Wrote, places_after}
use Rattle.bc_meta.specs.Acts.{Act, IfEvent, IsRun, State, after, event_of, fold, places_with}
use Rattle.bc_meta.proofs.Lists.{by_test}

-- behind entries that stand one behind the other
abbrev pub stand_end : Layout → ℕ → List Entry → ℕ
stand_end w start [] = start
stand_end w start (e ∷ es) = stand_end w start es + entry_len w e

-- the entry is one of them, at this place
abbrev pub IsAt : Layout → ℕ → List Entry → ℕ → Entry → Type 0
IsAt w start [] at x = ⊥
IsAt w start (e ∷ es) at x = ((x ≡ e) × (at ≡ stand_end w start es)) ⊎ IsAt w start es at x

pub at_in : (w : Layout) (start : ℕ) (es : List Entry) (at : ℕ) (x : Entry) → IsAt w start es at x → In x es
at_in w start [] at x h = h
at_in w start (e ∷ es) at x (inl k) = inl k.0
at_in w start (e ∷ es) at x (inr k) = inr (at_in w start es at x k)

pub in_at : (w : Layout) (start : ℕ) (es : List Entry) (x : Entry) → In x es → (at : ℕ) × IsAt w start es at x
in_at w start [] x i = absurd i
in_at w start (e ∷ es) x (inl is) = (stand_end w start es, inl (is, refl))
in_at w start (e ∷ es) x (inr i) = let k = in_at w start es x i in (k.0, inr k.1)

pub end_stands : (w : Layout) (found : ℕ → Option Entry) (start : ℕ) (es : List Entry) (next : ℕ) → Stand (entry_len w) found start es next → next ≡ stand_end w start es
end_stands w found start [] next h = h
end_stands w found start (e ∷ es) next h = h.3 ∙ ap (λ n. n + entry_len w e) (end_stands w found start es h.0 h.1)

pub at_found : (w : Layout) (found : ℕ → Option Entry) (start : ℕ) (es : List Entry) (next : ℕ) → Stand (entry_len w) found start es next → (at : ℕ) (x : Entry) → IsAt w start es at x → found at ≡ Some x
at_found w found start [] next h at x k = absurd k
at_found w found start (e ∷ es) next h at x (inl k) = ap found (k.1 ∙ sym (end_stands w found start es h.0 h.1)) ∙ h.2 ∙ ap (λ (y : Entry). Some y) (sym k.0)
at_found w found start (e ∷ es) next h at x (inr k) = at_found w found start es h.0 h.1 at x k

-- ---- what holds of the ring

pub record Ring (w : Layout) (opening : Image) (ring : ℕ → List Entry) (ring_next : ℕ → ℕ) (bucket : ℕ) (entry newest : Entry) (stage : Stage) (log : List (ℕ × ℕ × Entry)) : Type 0 where
  pub stood : (b at : ℕ) (e : Entry) → b < w.journal → IsAtBlock w.block (w.first b) at → entry_at w opening b at ≡ Some e → (e.number < newest.last_seq) ⊎ IsAt w (w.first b) (ring b) at e
  pub wrote : (b at : ℕ) (e : Entry) → Wrote log b at e → (e.number < newest.last_seq) ⊎ IsAt w (w.first b) (ring b) at e ⊎ ((b ≡ bucket) × (at ≡ ring_next bucket) × (e ≡ entry) × (stage ≢ Nothing))
  pub next : ring_next bucket ≡ stand_end w (w.first bucket) (ring bucket)
  pub once : (b c at bt : ℕ) (x y : Entry) → IsAt w (w.first b) (ring b) at x → IsAt w (w.first c) (ring c) bt y → newest.last_seq ≤ x.number → x.number ≡ y.number → (b ≡ c) × (at ≡ bt)
  pub low : (b at : ℕ) (x : Entry) → IsAt w (w.first b) (ring b) at x → x.number ≤ newest.number
  pub follows : stage ≢ Nothing → (entry.number ≡ suc newest.number) × (newest.last_seq ≤ entry.last_seq)

abbrev pub RingOf : Layout → Image → Places → Type 0
RingOf w opening p = Ring w opening p.records.ring p.ring_next p.records.bucket p.records.entry p.records.newest p.records.stage p.entry_log

after_some : (g : Stage) → after_barrier g ≢ Nothing → g ≢ Nothing
after_some Nothing h = h
after_some Fixed h = λ e. absurd (cc)
after_some Ready h = λ e. absurd (cc)
after_some Sent h = λ e. absurd (cc)
after_some Safe h = λ e. absurd (cc)

some_after : (g : Stage) → g ≢ Nothing → after_barrier g ≢ Nothing
some_after Nothing h = h
some_after Fixed h = λ e. absurd (cc)
some_after Ready h = λ e. absurd (cc)
some_after Sent h = λ e. absurd (cc)
some_after Safe h = λ e. absurd (cc)

ready_some : Ready ≢ Nothing
ready_some e = cc

sent_some : Sent ≢ Nothing
sent_some e = cc

safe_some : Safe ≢ Nothing
safe_some e = cc

-- another stage of the same sealed entry
restage : (w : Layout) (opening : Image) (ring : ℕ → List Entry) (ring_next : ℕ → ℕ) (bucket : ℕ) (entry newest : Entry) (old new : Stage) (log : List (ℕ × ℕ × Entry))
    → (old ≢ Nothing → new ≢ Nothing) → (new ≢ Nothing → old ≢ Nothing) → Ring w opening ring ring_next bucket entry newest old log → Ring w opening ring ring_next bucket entry newest new log
restage w opening ring ring_next bucket entry newest old new log on back r = record {
  stood = r.stood;
  wrote = λ b at e k. elim (r.wrote b at e k) [ inl lt ↦ inl lt | inr (inl there) ↦ inr (inl there) | inr (inr n) ↦ inr (inr (n.0, n.1, n.2, on n.3)) ];
  next = r.next;
  once = r.once;
  low = r.low;
  follows = λ some. r.follows (back some);
}

-- the sealed entry is written, well or not
logged : (w : Layout) (opening : Image) (ring : ℕ → List Entry) (ring_next : ℕ → ℕ) (bucket : ℕ) (entry newest : Entry) (old new : Stage) (log : List (ℕ × ℕ × Entry))
    → old ≢ Nothing → new ≢ Nothing → Ring w opening ring ring_next bucket entry newest old log → Ring w opening ring ring_next bucket entry newest new ((bucket, ring_next bucket, entry) ∷ log)
logged w opening ring ring_next bucket entry newest old new log was is r = record {
  stood = r.stood;
  wrote = λ b at e k. elim k [
    | inl here ↦ inr (inr (here.0, here.1, here.2, is))
    | inr more ↦ elim (r.wrote b at e more) [ inl lt ↦ inl lt | inr (inl there) ↦ inr (inl there) | inr (inr n) ↦ inr (inr (n.0, n.1, n.2, is)) ]
  ];
  next = r.next;
  once = r.once;
  low = r.low;
  follows = λ some. r.follows was;
}

-- an entry is sealed
sealed : (w : Layout) (opening : Image) (ring : ℕ → List Entry) (ring_next : ℕ → ℕ) (bucket : ℕ) (old new newest : Entry) (log : List (ℕ × ℕ × Entry))
    → new.number ≡ suc newest.number → newest.last_seq ≤ new.last_seq → Ring w opening ring ring_next bucket old newest Nothing log → Ring w opening ring ring_next bucket new newest Fixed log
sealed w opening ring ring_next bucket old new newest log number last r = record {
  stood = r.stood;
  wrote = λ b at e k. elim (r.wrote b at e k) [ inl lt ↦ inl lt | inr (inl there) ↦ inr (inl there) | inr (inr n) ↦ absurd (n.3 refl) ];
  next = r.next;
  once = r.once;
  low = r.low;
  follows = λ some. (number, last);
}

-- a bucket is begun, in which no entry counts any more
module _ (w : Layout) (opening : Image) (ring : ℕ → List Entry) (ring_next : ℕ → ℕ) (bucket : ℕ) (entry newest : Entry) (log : List (ℕ × ℕ × Entry)) (begun_ : ℕ)
    (old : (x : Entry) → In x (ring begun_) → x.number < newest.last_seq) (r : Ring w opening ring ring_next bucket entry newest Nothing log) where
  was_at : (b at : ℕ) (x : Entry) → IsAt w (w.first b) (put ring begun_ [] b) at x → IsAt w (w.first b) (ring b) at x
  was_at b at x = by_test b begun_ (λ t. IsAt w (w.first b) (if t then [] else ring b) at x → IsAt w (w.first b) (ring b) at x) (λ _ h. absurd h) (λ _ h. h)

  still_at : (b at : ℕ) (x : Entry) → IsAt w (w.first b) (ring b) at x → (x.number < newest.last_seq) ⊎ IsAt w (w.first b) (put ring begun_ [] b) at x
  still_at b at x h = by_test b begun_ (λ t. (x.number < newest.last_seq) ⊎ IsAt w (w.first b) (if t then [] else ring b) at x)
      (λ same. inl (old x (subst (λ n. In x (ring n)) same (at_in w (w.first b) (ring b) at x h)))) (λ _. inr h)

  begun : Ring w opening (put ring begun_ []) (put ring_next begun_ (w.first begun_)) begun_ entry newest Nothing log
  begun = record {
    stood = λ b at e lt block found. elim (r.stood b at e lt block found) [ inl low ↦ inl low | inr there ↦ still_at b at e there ];
    wrote = λ b at e k. elim (r.wrote b at e k) [
      | inl lt ↦ inl lt
      | inr (inl there) ↦ elim (still_at b at e there) [ inl lt ↦ inl lt | inr h ↦ inr (inl h) ]
      | inr (inr n) ↦ absurd (n.3 refl)
    ];
    next = by_test begun_ begun_ (λ t. (if t then w.first begun_ else ring_next begun_) ≡ stand_end w (w.first begun_) (if t then [] else ring begun_)) (λ _. refl) (λ ne. absurd (ne refl));
    once = λ b c at bt x y h k le same. r.once b c at bt x y (was_at b at x h) (was_at c bt y k) le same;
    low = λ b at x h. r.low b at x (was_at b at x h);
    follows = λ some. absurd (some refl);
  }

-- the sealed entry is durable
module _ (w : Layout) (opening : Image) (ring : ℕ → List Entry) (ring_next : ℕ → ℕ) (bucket : ℕ) (entry newest : Entry) (stage : Stage) (log : List (ℕ × ℕ × Entry))
    (some : stage ≢ Nothing) (r : Ring w opening ring ring_next bucket entry newest stage log) where
  number : entry.number ≡ suc newest.number
  number = (r.follows some).0

  last : newest.last_seq ≤ entry.last_seq
  last = (r.follows some).1

  abbrev IsNew : ℕ → ℕ → Entry → Type 0
  IsNew b at x = (b ≡ bucket) × (at ≡ ring_next bucket) × (x ≡ entry)

  more_at : (b at : ℕ) (x : Entry) → IsAt w (w.first b) (ring b) at x → IsAt w (w.first b) (put ring bucket (entry ∷ ring bucket) b) at x
  more_at b at x h = by_test b bucket (λ t. IsAt w (w.first b) (if t then entry ∷ ring bucket else ring b) at x)
      (λ same. inr (subst (λ n. IsAt w (w.first b) (ring n) at x) same h)) (λ _. h)

  which_at : (b at : ℕ) (x : Entry) → IsAt w (w.first b) (put ring bucket (entry ∷ ring bucket) b) at x → IsNew b at x ⊎ IsAt w (w.first b) (ring b) at x
  which_at b at x = by_test b bucket (λ t. IsAt w (w.first b) (if t then entry ∷ ring bucket else ring b) at x → IsNew b at x ⊎ IsAt w (w.first b) (ring b) at x)
      (λ same h. elim h [
        | inl new ↦ inl (same, new.1 ∙ ap (λ n. stand_end w (w.first n) (ring bucket)) same ∙ sym r.next, new.0)
        | inr k ↦ inr (subst (λ n. IsAt w (w.first b) (ring n) at x) (sym same) k)
      ])
      (λ _ h. inr h)

  new_at : IsAt w (w.first bucket) (put ring bucket (entry ∷ ring bucket) bucket) (ring_next bucket) entry
  new_at = by_test bucket bucket (λ t. IsAt w (w.first bucket) (if t then entry ∷ ring bucket else ring bucket) (ring_next bucket) entry) (λ _. inl (refl, r.next)) (λ ne. absurd (ne refl))

  once_more : (b c at bt : ℕ) (x y : Entry) → IsNew b at x ⊎ IsAt w (w.first b) (ring b) at x → IsNew c bt y ⊎ IsAt w (w.first c) (ring c) bt y → entry.last_seq ≤ x.number → x.number ≡ y.number → (b ≡ c) × (at ≡ bt)
  once_more b c at bt x y (inl p) (inl q) le same = (p.0 ∙ sym q.0, p.1 ∙ sym q.1)
  once_more b c at bt x y (inl p) (inr q) le same = let low = r.low c bt y q in let n = number in let is = ap (λ (z : Entry). z.number) p.2 in absurd (omega (arith, low, n, is, same))
  once_more b c at bt x y (inr p) (inl q) le same = let low = r.low b at x p in let n = number in let is = ap (λ (z : Entry). z.number) q.2 in absurd (omega (arith, low, n, is, same))
  once_more b c at bt x y (inr p) (inr q) le same = let l = last in r.once b c at bt x y p q (omega (arith, l, le)) same

  low_more : (b at : ℕ) (x : Entry) → IsNew b at x ⊎ IsAt w (w.first b) (ring b) at x → x.number ≤ entry.number
  low_more b at x (inl p) = let is = ap (λ (z : Entry). z.number) p.2 in omega (arith, is)
  low_more b at x (inr p) = let low = r.low b at x p in let n = number in omega (arith, low, n)

  durable : Ring w opening (put ring bucket (entry ∷ ring bucket)) (put ring_next bucket (ring_next bucket + entry_len w entry)) bucket entry entry Nothing log
  durable = record {
    stood = λ b at e lt block found. elim (r.stood b at e lt block found) [ inl low ↦ inl (let l = last in omega (arith, low, l)) | inr there ↦ inr (more_at b at e there) ];
    wrote = λ b at e k. elim (r.wrote b at e k) [
      | inl low ↦ inl (let l = last in omega (arith, low, l))
      | inr (inl there) ↦ inr (inl (more_at b at e there))
      | inr (inr n) ↦ inr (inl (subst (λ (x : Entry). IsAt w (w.first b) (put ring bucket (entry ∷ ring bucket) b) at x) (sym n.2)
          (subst (λ p. IsAt w (w.first b) (put ring bucket (entry ∷ ring bucket) b) p entry) (sym n.1)
          (subst (λ m. IsAt w (w.first m) (put ring bucket (entry ∷ ring bucket) m) (ring_next bucket) entry) (sym n.0) new_at))))
    ];
    next = by_test bucket bucket (λ t. (if t then ring_next bucket + entry_len w entry else ring_next bucket) ≡ stand_end w (w.first bucket) (if t then entry ∷ ring bucket else ring bucket)) (λ _. ap (λ n. n + entry_len w entry) r.next) (λ ne. absurd (ne refl));
    once = λ b c at bt x y h k le same. once_more b c at bt x y (which_at b at x h) (which_at c bt y k) le same;
    low = λ b at x h. low_more b at x (which_at b at x h);
    follows = λ none. absurd (none refl);
  }

-- ---- over every run

step : (w : Layout) (opening : Image) (p : Places) (e : Event) → CanHappen w p e → RingOf w opening p → RingOf w opening (places_after w p e)
step w opening p (BeginBucket b) can r =
    let was = subst (λ s. Ring w opening p.records.ring p.ring_next p.records.bucket p.records.entry p.records.newest s p.entry_log) can.0.0 r in
    subst (λ s. Ring w opening (put p.records.ring b []) (put p.ring_next b (w.first b)) b p.records.entry p.records.newest s p.entry_log) (sym can.0.0)
    (begun w opening p.records.ring p.ring_next p.records.bucket p.records.entry p.records.newest p.entry_log b can.0.1 was)
step w opening p (SealEntry entry unused) can r =
    sealed w opening p.records.ring p.ring_next p.records.bucket p.records.entry entry p.records.newest p.entry_log can.0.5 can.0.1
    (subst (λ s. Ring w opening p.records.ring p.ring_next p.records.bucket p.records.entry p.records.newest s p.entry_log) can.0.0 r)
step w opening p (WriteEntry values) can r =
    logged w opening p.records.ring p.ring_next p.records.bucket p.records.entry p.records.newest p.records.stage Sent p.entry_log (λ e. ready_some (sym can.0 ∙ e)) sent_some r
step w opening p (FailEntry values) can r =
    logged w opening p.records.ring p.ring_next p.records.bucket p.records.entry p.records.newest p.records.stage p.records.stage p.entry_log (λ e. ready_some (sym can.0 ∙ e)) (λ e. ready_some (sym can.0 ∙ e)) r
step w opening p MakeDurable can r =
    durable w opening p.records.ring p.ring_next p.records.bucket p.records.entry p.records.newest p.records.stage p.entry_log (λ e. safe_some (sym can.0 ∙ e)) r
step w opening p Barrier can r =
    restage w opening p.records.ring p.ring_next p.records.bucket p.records.entry p.records.newest p.records.stage (after_barrier p.records.stage) p.entry_log (some_after p.records.stage) (after_some p.records.stage) r
step w opening p e can r = r

pub run_ring : (w : Layout) (opening : Image) (st : State) (acts : List Act) → IsRun w st acts → RingOf w opening st.places → RingOf w opening (fold w st acts).places
run_ring w opening st [] run r = r
run_ring w opening st (act ∷ acts) run r = run_ring w opening (after w st act) acts run.1 (one (event_of w act) run.0.0)
  where
    one : (o : Option Event) → IfEvent (CanHappen w st.places) o → RingOf w opening (places_with w st.places o)
    one None can = r
    one (Some e) can = step w opening st.places e can r
