-- The runs that break a law where a condition is left out.
use Rattle.std.proofs.Common.{◌≡◌, inl, inr, ℕ, ◌<◌, ◌≤◌, true, false, ◌==◌, Some, None, if◌then◌else◌, refl, sym, subst, arith}
use Rattle.bc_books.specs.Index.{Clean, Dirty, Pointer}
use Rattle.bc_books.specs.Shelves.{Priorities, Held}
use Rattle.bc_books.specs.Marks.{Dirtied}
use Rattle.bc_books.specs.Books.{Take, opened, unused}
use Rattle.bc_books.specs.After.{after, IsRun}
use Rattle.bc_books.specs.Example.{small}
use Rattle.bc_books.specs.Teeth.{dirty_run, LawTeethMark, LawTeethFirm, LawTeethWalked, LawTeethTouched, LawTeethReady, open_run, LawTeethPin, old, LawTeethNear, chain_run, LawTeethPurpose, LawTeethChain, bare_books, LawTeethPut, LawTeethVersion}
use Rattle.bc_model.proofs.Cases.{by_test}
use Rattle.bc_books.proofs.Small.{put_one, put_two, sound_small}
use Rattle.bc_books.proofs.Runs.{pin_one, pin_two, unpinned_zero, dirty_at}

runs_open : IsRun small (opened small) open_run
runs_open = (inl refl, (pin_two _ _ 0 (inl refl) (inl refl) refl refl, (put_two small _ _ _ 0 0 Dirty 0 refl (omega arith, refl) (omega arith, refl) (inl (tt, refl)) (inl (tt, refl)) tt tt, tt)))

runs_dirty : IsRun small (opened small) dirty_run
runs_dirty = (inl refl, (pin_two _ _ 0 (inl refl) (inl refl) refl refl, (put_two small _ _ _ 0 0 Dirty 0 refl (omega arith, refl) (omega arith, refl) (inl (tt, refl)) (inl (tt, refl)) tt tt, (refl, (refl, (refl, tt))))))

pub law_teeth_mark : LawTeethMark
law_teeth_mark = record {
  run = runs_dirty;
  loose = refl;
  unpinned = unpinned_zero _ (λ p. p) (λ p. p);
  not_held = ((λ e. cc), λ i h. let e = h.1 in cc);
  near = omega arith;
  lost = (0, (dirty_at 0, ((refl, refl), refl, refl)));
}

pub law_teeth_firm : LawTeethFirm
law_teeth_firm = record {
  run = (inl refl, (pin_one _ _ 0 (inl refl) refl, (put_one small _ _ _ 0 0 Dirty 0 (omega arith, refl) (inl (tt, refl)) tt, (refl, (refl, (refl, (inl refl, (pin_one _ _ 2 (inl refl) refl, (put_one small _ _ _ 0 0 Dirty 2 (omega arith, refl) (inl (tt, refl)) tt, (refl, (refl, tt)))))))))));
  going = refl;
  walked = λ s lt. refl;
  can_raise = (record { unpinned = unpinned_zero _ (λ p. p) (λ p. p); not_held = ((λ e. cc), λ i h. let e = h.1 in cc); free = refl; near = omega arith }, refl);
  lost = refl;
}

pub law_teeth_walked : LawTeethWalked
law_teeth_walked = record {
  run = runs_dirty;
  begin = refl;
  firm = omega arith;
  can_raise = (record { unpinned = unpinned_zero _ (λ p. p) (λ p. p); not_held = ((λ e. cc), λ i h. let e = h.1 in cc); free = refl; near = omega arith }, refl);
  lost = (0, (dirty_at 0, ((refl, refl), refl, refl)));
}

pub law_teeth_touched : LawTeethTouched
law_teeth_touched = record {
  run = (refl, (refl, (inl refl, (pin_two _ _ 0 (inl refl) (inl refl) refl refl, (put_two small _ _ _ 0 0 Dirty 0 refl (omega arith, refl) (omega arith, refl) (inl (tt, refl)) (inl (tt, refl)) tt tt, (refl, (refl, (refl, tt))))))));
  going = refl;
  walked = λ s lt. refl;
  firm = omega arith;
  touched = refl;
  can_raise = (record { unpinned = unpinned_zero _ (λ p. p) (λ p. p); not_held = ((λ e. cc), λ i h. let e = h.1 in cc); free = refl; near = omega arith }, refl);
  lost = (0, (dirty_at 0, ((refl, refl), refl, refl)));
}

pub law_teeth_ready : LawTeethReady
law_teeth_ready = record {
  run = (
    inl refl,
    (pin_two _ _ 0 (inl refl) (inl refl) refl refl, (put_two small _ _ _ 0 0 Dirty 0 refl (omega arith, refl) (omega arith, refl) (inl (tt, refl)) (inl (tt, refl)) tt tt, (put_two small _ _ _ 0 0 Clean 0 refl (omega arith, refl) (omega arith, refl) (inr (dirty_at 0, refl, refl)) (inr (dirty_at 1, refl, refl)) tt tt, (refl, (refl, (refl, (refl, (refl, (record { going = refl; walked = λ s lt. refl; firm = omega arith }, ((record { unpinned = unpinned_zero _ (λ p. p) (λ p. p); not_held = ((λ e. cc), λ i h. let e = h.1 in cc); free = refl; near = omega arith }, refl), tt)))))))))),
  );
  raised = refl;
  taken = (inl refl, (pin_one _ _ 0 (inl refl) refl, tt));
  pinned = tt;
  live = (refl, refl);
}

pub law_teeth_pin : LawTeethPin
law_teeth_pin = record { run = runs_open; for_data = inl refl; pinned = tt; live = (refl, refl) }

-- only sector 0 has a key
only_old : (s : ℕ) (r : Pointer) (P : ℕ → Pointer → Type 0) → P 0 (record { kind = Clean; place = 0; version = 204 })
    → old.index s ≡ Some r → P s r
only_old s r P h = by_test s 0 (λ z. (if z then Some (record { kind = Clean; place = 0; version = 204 }) else None) ≡ Some r → P s r) (λ is e. subst (λ n. P n r) (sym is) (subst (λ q. P 0 q) (some_same _ r e) h)) (λ _ e. absurd (cc))
  where
    some_same : (a b : Pointer) → Some a ≡ Some b → a ≡ b
    some_same a b e = cc

pub law_teeth_near : LawTeethNear
law_teeth_near = record {
  sound = let x = sound_small in record {
    window = λ b. (omega arith, omega arith);
    inside = λ s r. only_old s r (λ s r. (s < 4) × (204 ≤ r.version)
        × (r.version ≤ 300)) (omega arith, omega arith, omega arith);
    dirty = λ s r. only_old s r (λ s r. r.kind ≡ Dirty → (old.mark (old.bucket r.place) ≡ Dirtied)
        × (300 ≡ r.version)) (λ d. absurd (cc));
    spare = λ s r. only_old s r (λ s r. 300 ≡ r.version
        → unused old (old.bucket r.place) ≡ false) (λ e. absurd (omega arith));
    fixed = x.fixed;
    node = x.node;
    chain = x.chain;
    plain = x.plain;
    sets = x.sets;
    next = x.next;
  };
  run = (inl refl, (refl, tt));
  loose = refl;
  far = λ h. let high = h.high in absurd (omega arith);
}

runs_chain : IsRun small (opened small) chain_run
runs_chain = (inr (inl refl), (record { none_waits = refl; order = λ b. (omega arith, omega arith); held = only_six; sets = ((λ j. 6), (λ i j x y e. omega arith), λ j lt. refl) }, tt))
  where
    only_six : (b : ℕ) → (b == 6) ≡ true → ((after small (opened small) (Take 1 Priorities 6)).shelf b ≡ Held 1 Priorities) × ((after small (opened small) (Take 1 Priorities 6)).chains.of b ≡ None)
    only_six b = by_test b 6 (λ z. z ≡ true → ((after small (opened small) (Take 1 Priorities 6)).shelf b ≡ Held 1 Priorities) × ((after small (opened small) (Take 1 Priorities 6)).chains.of b ≡ None))
        (λ is _. subst (λ c. ((after small (opened small) (Take 1 Priorities 6)).shelf c ≡ Held 1 Priorities) × ((after small (opened small) (Take 1 Priorities 6)).chains.of c ≡ None)) (sym is) (refl, refl)) (λ _ e. absurd (cc))

pub law_teeth_purpose : LawTeethPurpose
law_teeth_purpose = record { run = runs_chain; fresh = refl; of_chain = refl; pinned = tt }

pub law_teeth_chain : LawTeethChain
law_teeth_chain = record { run = runs_chain; of_chain = refl; same = refl; listed = refl }

pub law_teeth_put : LawTeethPut
law_teeth_put = record {
  not_pinned = refl;
  run = (inl refl, (record { none_waits = refl; order = λ b. (omega arith, omega arith); held = only_two; sets = ((λ j. 2), (λ i j x y e. omega arith), λ j lt. refl) }, tt));
  of_chain = refl;
  live = (refl, refl);
}
  where
    only_two : (b : ℕ) → (b == 2) ≡ true → ((after small bare_books (Take 1 Priorities 2)).shelf b ≡ Held 1 Priorities) × ((after small bare_books (Take 1 Priorities 2)).chains.of b ≡ None)
    only_two b = by_test b 2 (λ z. z ≡ true → ((after small bare_books (Take 1 Priorities 2)).shelf b ≡ Held 1 Priorities) × ((after small bare_books (Take 1 Priorities 2)).chains.of b ≡ None))
        (λ is _. subst (λ c. ((after small bare_books (Take 1 Priorities 2)).shelf c ≡ Held 1 Priorities) × ((after small bare_books (Take 1 Priorities 2)).chains.of c ≡ None)) (sym is) (refl, refl)) (λ _ e. absurd (cc))

pub law_teeth_version : LawTeethVersion
law_teeth_version = record { run = (inl refl, (pin_one _ _ 0 (inl refl) refl, tt)); written = refl; lost = λ h. let e = h.dirty refl in absurd (omega arith) }
