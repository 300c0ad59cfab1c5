-- The seat goes on: a trace round, a read, a flush, a write-back, data that is read and kept, and at
-- last a barrier that fails.
use Rattle.std.proofs.Common.{◌≡◌, ◌≢◌, ◌⊎◌, inl, inr, ℕ, ◌+◌, ◌<◌, ◌≤◌, Bool, true, false, List, [], ◌∷◌, Some, None, refl, ◌∙◌, subst, arith, if◌then◌else◌, ◌||◌, replicate, lit<, lit≤}
use Rattle.bc_model.specs.Sector.{Value, Gives}
use Rattle.bc_disk.specs.Device.{Among}
use Rattle.bc_key.specs.declared.key.Key.{Key}
use Rattle.bc_key.specs.Ptr.{no_ptr}
use Rattle.bc_books.specs.Index.{Clean, Pointer, within, first_hit, names}
use Rattle.bc_books.specs.Index as index
use Rattle.bc_books.specs.Shelves.{Own, Kept, Spent, Fresh, IsForData, IsPinned, WasPinned}
use Rattle.bc_books.specs.Books as book
use Rattle.bc_books.specs.Enabled.{IsLawful}
use Rattle.bc_books.proofs.Small.{in_one}
use Rattle.bc_books.proofs.Cases.{by_bool}
use Rattle.bc_data.specs.Seats.{Claim, Covers, Apart, new_claim}
use Rattle.bc_data.specs.Data as flow
use Rattle.bc_data.specs.Data.{claim_of}
use Rattle.bc_data.specs.Enabled.{MayWrite, MayInsert, MayKeep, MaySettle, IsKnown}
use Rattle.bc_data.proofs.Asked.{hit_one, place_one}
use Rattle.bc_meta.proofs.Lists.{by_test}
use Rattle.bc_meta.proofs.Example.{no_more}
use Rattle.bc_leaves.specs.Keys.{last_said}
use Rattle.bc_leaves.proofs.Pend.{front_miss}
use Rattle.bc_leaves.proofs.Said.{spoken_range}
use Rattle.bc_whole.specs.State.{OfData, OfEntry, SameRoot, SameChain, State}
use Rattle.bc_whole.specs.State as whole
use Rattle.bc_whole.specs.Run as whole_run
use Rattle.bc_whole.specs.Together.{SayTheSame, said_of}
use Rattle.bc_whole.proofs.Toy.{stored_key, data_ptr}
use Rattle.bc_whole.proofs.Start.{opening, setup, each_below}
use Rattle.bc_whole.proofs.Built.{at_one}
use Rattle.bc_whole.proofs.Stored.{nine, book_key, data_pointer, all_still}
use Rattle.bc_whole.proofs.Used.{blank_value}
use Rattle.bc_known.specs.Acts.{Act, Alone, Keyed, WriteCache}
use Rattle.bc_known.specs.Run.{IsEnabled}
use Rattle.bc_known_example.proofs.Leads.{at}
use Rattle.bc_events_example.proofs.Stored.{t20, t29, still_20}

-- the stored key made clean, and a key of sector 5
abbrev pub clean_key : Key
clean_key = record stored_key { dirty = false }

abbrev pub kept_key : Key
kept_key = record {
  inode = 0;
  end = 6;
  size = 1;
  dirty = false;
  csum = 0;
  count = 1;
  ptrs = data_ptr 30 (lit< tt) ∷ replicate 5 no_ptr;
  inode_fits = lit< tt;
  end_fits = lit< tt;
  size_fits = lit< tt;
  csum_fits = lit< tt;
  count_fits = lit≤ tt;
  six_places = refl;
  no_more_ptrs = no_more (data_ptr 30 (lit< tt));
}

abbrev pub clean_book : index.Key
clean_book = record { first = 0; count = 1; kind = Some Clean; place = 28; version = 301 }

abbrev pub kept_book : index.Key
kept_book = record { first = 5; count = 1; kind = Some Clean; place = 30; version = 301 }

same_clean : SayTheSame (clean_key ∷ []) (clean_book ∷ [])
same_clean s = by_test 0 s (λ b. last_said (clean_key ∷ []) s ≡ said_of (first_hit clean_book
    (if b then Some 28 else None) None))
    (λ is. subst (λ (s : ℕ). last_said (clean_key ∷ []) s ≡ Some
    (Some (record { dirty = false; dev = 0; place = 28; generation = 45 }))) is refl)
    (λ ne. front_miss clean_key [] s (λ c. let r = spoken_range clean_key s c in let r1 : s < 1 =
    r.1 in absurd (omega arith)))

same_kept : SayTheSame (kept_key ∷ []) (kept_book ∷ [])
same_kept s = by_test 5 s (λ b. last_said (kept_key ∷ []) s ≡ said_of (first_hit kept_book
    (if b then Some 30 else None) None))
    (λ is. subst (λ (s : ℕ). last_said (kept_key ∷ []) s ≡ Some
    (Some (record { dirty = false; dev = 0; place = 30; generation = 45 }))) is refl)
    (λ ne. front_miss kept_key [] s (λ c. let r = spoken_range kept_key s c in let r0 : 5 ≤ s =
    r.0 in let r1 : s < 6 = r.1 in absurd (omega arith)))

-- the one value of a run, and the one sector of a claim
pub gives_one : (a : ℕ) (x : Value) (P : ℕ → Value → Type 0) → P a x → Gives a (x ∷ []) P
gives_one a x P h s v = by_test a s (λ b. (if b then Some x else None) ≡ Some v → P s v)
    (λ is e. subst (λ n. P n v) is (subst (λ y. P a y) (same x v e) h)) (λ _ e. absurd (cc))
  where
    same : (x v : Value) → Some x ≡ Some v → x ≡ v
    same x v e = cc

only : (a s : ℕ) → (a ≤ s) × (s < a + 1) → (P : ℕ → Type 0) → P a → P s
only a s c P h = let low = c.0 in let high = c.1 in let is : a ≡ s = omega arith in subst P is h

-- a claim of no sectors forbids none
far : (first : ℕ) (how : Bool) (c : Claim) → c.count ≡ 0 → Apart (new_claim first 1 how) c
far first how c n = inr (λ s a b. let b0 = b.0 in let b1 = b.1 in omega arith)

named : (place t : ℕ) → (within place 1 t || false) ≡ true → within place 1 t ≡ true
named place t e = by_bool (within place 1 t) (λ b. (b || false) ≡ true → b ≡ true) (λ _ _. refl)
    (λ _ x. absurd (cc)) e

abbrev acts_29 : List whole.Act
acts_29 = whole.Alone (flow.MakeClaim 0 1 true)
    ∷ whole.Keyed (flow.InsertWrite 5 1 (book_key ∷ []) 0 (nine ∷ [])) 1 (stored_key ∷ [])
    ∷ whole.Seal 1 [] SameRoot SameChain ∷ whole.CacheBarrier
    ∷ whole.WriteCache OfEntry ((3 ∷ []) ∷ []) ∷ whole.CacheBarrier ∷ whole.MakeDurable
    ∷ whole.Alone (flow.Say (flow.Acknowledge 5 0 1)) ∷ whole.Alone flow.Release ∷ []

still_29 : (k : ℕ) → k ≢ 1 → (claim_of t29.flow k).count ≡ 0
still_29 k ne = all_still k ne t20 acts_29 ∙ still_20 k ne

abbrev pub u1 : State
u1 = whole_run.after opening t29 1 (whole.Alone (flow.Shelve book.Begin))

abbrev pub u2 : State
u2 = whole_run.after opening u1 1 (whole.Alone (flow.Shelve (book.Walk 1)))

abbrev pub u3 : State
u3 = whole_run.after opening u2 1 (whole.Alone (flow.Shelve book.End))

abbrev pub u4 : State
u4 = whole_run.after opening u3 1 (whole.Alone (flow.MakeClaim 0 1 false))

abbrev pub u5 : State
u5 = whole_run.after opening u4 1 (whole.Alone (flow.Learn (flow.Look 1)))

abbrev pub u6 : State
u6 = whole_run.after opening u5 1 (whole.Alone (flow.Learn (flow.CacheRead 0 (nine ∷ []))))

abbrev pub u7 : State
u7 = whole_run.after opening u6 1 (whole.Alone (flow.Say (flow.Answer 6 0 (nine ∷ []))))

abbrev pub u8 : State
u8 = whole_run.after opening u7 1 (whole.Alone flow.Release)

abbrev pub u9 : State
u9 = whole_run.after opening u8 1 (whole.Alone (flow.Say (flow.BeginFlush 6)))

abbrev pub u10 : State
u10 = whole_run.after opening u9 1 (whole.Alone flow.BackingBarrier)

abbrev pub u11 : State
u11 = whole_run.after opening u10 1 (whole.Alone (flow.Say (flow.EndFlush 6)))

abbrev pub u12 : State
u12 = whole_run.after opening u11 1 (whole.Alone (flow.MakeClaim 0 1 true))

abbrev pub u13 : State
u13 = whole_run.after opening u12 1 (whole.Alone (flow.Learn (flow.Look 1)))

abbrev pub u14 : State
u14 = whole_run.after opening u13 1 (whole.Alone (flow.Learn (flow.CacheRead 0 (nine ∷ []))))

abbrev pub u15 : State
u15 = whole_run.after opening u14 1 (whole.Alone (flow.Learn (flow.Look 1)))

abbrev pub u16 : State
u16 = whole_run.after opening u15 1 (whole.Alone (flow.BackingWrite flow.Copy 0 (nine ∷ [])))

abbrev pub u17 : State
u17 = whole_run.after opening u16 1 (whole.Alone flow.BackingBarrier)

abbrev pub u18 : State
u18 = whole_run.after opening u17 1 (whole.Keyed (flow.Insert flow.CleanKeys 1 (clean_book ∷ [])) 1 (clean_key ∷ []))

abbrev pub u19 : State
u19 = whole_run.after opening u18 1 (whole.Alone (flow.UnpinPlaces 29 1))

abbrev pub u20 : State
u20 = whole_run.after opening u19 1 (whole.Alone flow.Release)

abbrev pub u21 : State
u21 = whole_run.after opening u20 1 (whole.Alone (flow.PinPlaces 30 1))

abbrev pub u22 : State
u22 = whole_run.after opening u21 1 (whole.Alone (flow.MakeClaim 5 1 false))

abbrev pub u23 : State
u23 = whole_run.after opening u22 1 (whole.Alone (flow.Learn (flow.Look 1)))

abbrev pub u24 : State
u24 = whole_run.after opening u23 1 (whole.Alone (flow.Learn (flow.BackingRead 5 (blank_value ∷ []))))

abbrev pub u25 : State
u25 = whole_run.after opening u24 1 (whole.WriteCache (OfData 7 30) (blank_value ∷ []))

abbrev pub u26 : State
u26 = whole_run.after opening u25 1 (whole.Alone (flow.NoteCandidate 0 5 1 30))

abbrev pub u27 : State
u27 = whole_run.after opening u26 1 (whole.Alone flow.BackingBarrier)

abbrev pub u28 : State
u28 = whole_run.after opening u27 1 (whole.Keyed (flow.Settle 0 1 (kept_book ∷ [])) 1 (kept_key ∷ []))

abbrev pub u29 : State
u29 = whole_run.after opening u28 1 (whole.Alone flow.Release)

abbrev pub u30 : State
u30 = whole_run.after opening u29 1 (whole.Alone (flow.Fail flow.BarrierFault))

abbrev pub round_act : Act
round_act = Alone (flow.Shelve book.Begin)

abbrev pub walk_act : Act
walk_act = Alone (flow.Shelve (book.Walk 1))

abbrev pub round_end_act : Act
round_end_act = Alone (flow.Shelve book.End)

abbrev pub claim_shared_act : Act
claim_shared_act = Alone (flow.MakeClaim 0 1 false)

abbrev pub look_act : Act
look_act = Alone (flow.Learn (flow.Look 1))

abbrev pub cache_read_act : Act
cache_read_act = Alone (flow.Learn (flow.CacheRead 0 (nine ∷ [])))

abbrev pub answer_act : Act
answer_act = Alone (flow.Say (flow.Answer 6 0 (nine ∷ [])))

abbrev pub release_act : Act
release_act = Alone flow.Release

abbrev pub flush_act : Act
flush_act = Alone (flow.Say (flow.BeginFlush 6))

abbrev pub backing_barrier_act : Act
backing_barrier_act = Alone flow.BackingBarrier

abbrev pub flush_done_act : Act
flush_done_act = Alone (flow.Say (flow.EndFlush 6))

abbrev pub claim_alone_act : Act
claim_alone_act = Alone (flow.MakeClaim 0 1 true)

abbrev pub copy_act : Act
copy_act = Alone (flow.BackingWrite flow.Copy 0 (nine ∷ []))

abbrev pub clean_act : Act
clean_act = Keyed (flow.Insert flow.CleanKeys 1 (clean_book ∷ [])) 1 (clean_key ∷ [])

abbrev pub unpin_act : Act
unpin_act = Alone (flow.UnpinPlaces 29 1)

abbrev pub pin_one_act : Act
pin_one_act = Alone (flow.PinPlaces 30 1)

abbrev pub claim_5_act : Act
claim_5_act = Alone (flow.MakeClaim 5 1 false)

abbrev pub backing_read_act : Act
backing_read_act = Alone (flow.Learn (flow.BackingRead 5 (blank_value ∷ [])))

abbrev pub kept_data_act : Act
kept_data_act = WriteCache (OfData 7 30) (blank_value ∷ [])

abbrev pub candidate_act : Act
candidate_act = Alone (flow.NoteCandidate 0 5 1 30)

abbrev pub settle_act : Act
settle_act = Keyed (flow.Settle 0 1 (kept_book ∷ [])) 1 (kept_key ∷ [])

abbrev pub fault_act : Act
fault_act = Alone (flow.Fail flow.BarrierFault)

pub did_0 : IsEnabled opening (at t29 9) 1 round_act
did_0 = record {
  data_allows = (record { heard = refl; steps = (refl, tt); can = tt }, tt);
  asks = refl;
}

pub did_1 : IsEnabled opening (at u1 9) 1 walk_act
did_1 = record {
  data_allows = (record { heard = refl; steps = (refl, tt); can = tt }, tt);
  asks = refl;
}

pub did_2 : IsEnabled opening (at u2 9) 1 round_end_act
did_2 = record {
  data_allows = (record { heard = refl; steps = (record { going = refl; walked = λ s lt. each_below 8 (λ s. u2.flow.books.round.walked s ≡ true) (refl, (refl, (refl, (refl, (refl, (refl, (refl, (refl, tt)))))))) s lt; firm = omega arith }, tt); can = tt }, tt);
  asks = refl;
}

still_u3 : (k : ℕ) → k ≢ 1 → (claim_of u3.flow k).count ≡ 0
still_u3 k ne = all_still k ne t29 (whole.Alone (flow.Shelve book.Begin) ∷ whole.Alone (flow.Shelve (book.Walk 1)) ∷ whole.Alone (flow.Shelve book.End) ∷ []) ∙ still_29 k ne

pub did_3 : IsEnabled opening (at u3 9) 1 claim_shared_act
did_3 = record {
  data_allows = (record { heard = refl; steps = tt; can = record { none = refl; inside = omega arith; apart = λ k ne. far 0 false (claim_of u3.flow k) (still_u3 k ne) } }, tt);
  asks = refl;
}

pub did_4 : IsEnabled opening (at u4 9) 1 look_act
did_4 = record {
  data_allows = (record { heard = refl; steps = tt; can = λ s c. only 0 s c (λ s. u4.flow.books.index.leaf s ≡ 1) refl }, tt);
  asks = refl;
}

pub did_5 : IsEnabled opening (at u5 9) 1 cache_read_act
did_5 = record {
  data_allows = (record { heard = inl refl; steps = tt; can = (refl, gives_one 0 nine (λ s v. Covers (claim_of u5.flow 1) s × ((r : Pointer) × ((claim_of u5.flow 1).sight s ≡ Some r) × Among v (u5.flow.cache.reads r.place))) (((omega arith), (omega arith)), (data_pointer, refl, inl refl))) }, tt);
  asks = refl;
}

pub did_6 : IsEnabled opening (at u6 9) 1 answer_act
did_6 = record {
  data_allows = (record { heard = refl; steps = tt; can = (refl, gives_one 0 nine (λ s v. Covers (claim_of u6.flow 1) s × IsKnown opening.flow u6.flow (claim_of u6.flow 1) s v) (((omega arith), (omega arith)), inr (data_pointer, refl, refl, refl))) }, tt);
  asks = refl;
}

pub did_7 : IsEnabled opening (at u7 9) 1 release_act
did_7 = record {
  data_allows = (record { heard = tt; steps = tt; can = tt }, tt);
  asks = refl;
}

pub did_8 : IsEnabled opening (at u8 9) 1 flush_act
did_8 = record {
  data_allows = (record { heard = refl; steps = tt; can = tt }, tt);
  asks = refl;
}

pub did_9 : IsEnabled opening (at u9 9) 1 backing_barrier_act
did_9 = record {
  data_allows = (record { heard = inl refl; steps = tt; can = tt }, tt);
  asks = refl;
}

pub did_10 : IsEnabled opening (at u10 9) 1 flush_done_act
did_10 = record {
  data_allows = (record { heard = refl; steps = tt; can = record { going = refl; its_line = refl; keys = omega arith; firm = refl } }, tt);
  asks = refl;
}

still_u11 : (k : ℕ) → k ≢ 1 → (claim_of u11.flow k).count ≡ 0
still_u11 k ne = all_still k ne t29 (whole.Alone (flow.Shelve book.Begin) ∷ whole.Alone (flow.Shelve (book.Walk 1)) ∷ whole.Alone (flow.Shelve book.End) ∷ whole.Alone (flow.MakeClaim 0 1 false) ∷ whole.Alone (flow.Learn (flow.Look 1)) ∷ whole.Alone (flow.Learn (flow.CacheRead 0 (nine ∷ []))) ∷ whole.Alone (flow.Say (flow.Answer 6 0 (nine ∷ []))) ∷ whole.Alone flow.Release ∷ whole.Alone (flow.Say (flow.BeginFlush 6)) ∷ whole.Alone flow.BackingBarrier ∷ whole.Alone (flow.Say (flow.EndFlush 6)) ∷ []) ∙ still_29 k ne

pub did_11 : IsEnabled opening (at u11 9) 1 claim_alone_act
did_11 = record {
  data_allows = (record { heard = refl; steps = tt; can = record { none = refl; inside = omega arith; apart = λ k ne. far 0 true (claim_of u11.flow k) (still_u11 k ne) } }, tt);
  asks = refl;
}

pub did_12 : IsEnabled opening (at u12 9) 1 look_act
did_12 = record {
  data_allows = (record { heard = refl; steps = tt; can = λ s c. only 0 s c (λ s. u12.flow.books.index.leaf s ≡ 1) refl }, tt);
  asks = refl;
}

pub did_13 : IsEnabled opening (at u13 9) 1 cache_read_act
did_13 = record {
  data_allows = (record { heard = inl refl; steps = tt; can = (refl, gives_one 0 nine (λ s v. Covers (claim_of u13.flow 1) s × ((r : Pointer) × ((claim_of u13.flow 1).sight s ≡ Some r) × Among v (u13.flow.cache.reads r.place))) (((omega arith), (omega arith)), (data_pointer, refl, inl refl))) }, tt);
  asks = refl;
}

pub did_14 : IsEnabled opening (at u14 9) 1 look_act
did_14 = record {
  data_allows = (record { heard = refl; steps = tt; can = λ s c. only 0 s c (λ s. u14.flow.books.index.leaf s ≡ 1) refl }, tt);
  asks = refl;
}

pub did_15 : IsEnabled opening (at u15 9) 1 copy_act
did_15 = record {
  data_allows = (record { heard = inl refl; steps = tt; can = record { checked = gives_one 0 nine (λ s v. Covers (claim_of u15.flow 1) s × ((claim_of u15.flow 1).checked s ≡ Some v)) (((omega arith), (omega arith)), refl); known = omega arith } }, tt);
  asks = refl;
}

pub did_16 : IsEnabled opening (at u16 9) 1 backing_barrier_act
did_16 = record {
  data_allows = (record { heard = inl refl; steps = tt; can = tt }, tt);
  asks = refl;
}

pub did_17 : IsEnabled opening (at u17 9) 1 clean_act
did_17 = record {
  data_allows = (
    record {
      heard = refl;
      steps = (
        record {
          whole = ((omega arith), (λ s p e. place_one 0 28 s p (λ s p. setup.bucket p ≡ 7) refl e), tt);
          inside = λ s o h. hit_one 0 (Some Clean) 28 301 s o (λ s o. (s < 8) × (u17.flow.books.index.leaf s ≡ 1)) ((omega arith), refl) h;
          lawful = λ s o h. hit_one 0 (Some Clean) 28 301 s o (λ s o. IsLawful setup.bucket u17.flow.books.generations.version u17.flow.books.owner (index.latest u17.flow.books.index s) o) (inr (data_pointer, refl, refl)) h;
          named = λ t n. in_one 28 t (λ t. WasPinned (u17.flow.books.owner t)) tt (named 28 t n);
        },
        tt,
      );
      can = record { using = λ t n. in_one 28 t (λ t. (u17.flow.books.owner t ≡ Own 1) ⊎ (u17.flow.books.owner t ≡ Spent)) (inr refl) (named 28 t n); hits = λ s o h. hit_one 0 (Some Clean) 28 301 s o (MayInsert opening.flow u17.flow 1 flow.CleanKeys) (record { covers = ((omega arith), (omega arith)); firm = refl; old = data_pointer; now = refl; dirty = refl; is = refl }) h; not_plain = refl };
    },
    tt,
  );
  asks = ((refl, same_clean), refl, (((omega arith), (omega arith)), tt));
}

pub did_18 : IsEnabled opening (at u18 9) 1 unpin_act
did_18 = record {
  data_allows = (record { heard = tt; steps = ((λ t n. in_one 29 t (λ t. WasPinned (u18.flow.books.owner t)) tt n), tt); can = λ t n. in_one 29 t (λ t. (u18.flow.books.owner t ≡ Own 1) ⊎ (u18.flow.books.owner t ≡ Spent)) (inl refl) n }, tt);
  asks = refl;
}

pub did_19 : IsEnabled opening (at u19 9) 1 release_act
did_19 = record {
  data_allows = (record { heard = tt; steps = tt; can = tt }, tt);
  asks = refl;
}

pub did_20 : IsEnabled opening (at u20 9) 1 pin_one_act
did_20 = record {
  data_allows = (record { heard = refl; steps = (record { for_data = λ t n. in_one 30 t (λ t. IsForData 1 (u20.flow.books.shelf (setup.bucket t))) (inl refl) n; fresh = λ t n. in_one 30 t (λ t. u20.flow.books.owner t ≡ Fresh) refl n }, tt); can = tt }, tt);
  asks = refl;
}

still_u21 : (k : ℕ) → k ≢ 1 → (claim_of u21.flow k).count ≡ 0
still_u21 k ne = all_still k ne t29 (whole.Alone (flow.Shelve book.Begin) ∷ whole.Alone (flow.Shelve (book.Walk 1)) ∷ whole.Alone (flow.Shelve book.End) ∷ whole.Alone (flow.MakeClaim 0 1 false) ∷ whole.Alone (flow.Learn (flow.Look 1)) ∷ whole.Alone (flow.Learn (flow.CacheRead 0 (nine ∷ []))) ∷ whole.Alone (flow.Say (flow.Answer 6 0 (nine ∷ []))) ∷ whole.Alone flow.Release ∷ whole.Alone (flow.Say (flow.BeginFlush 6)) ∷ whole.Alone flow.BackingBarrier ∷ whole.Alone (flow.Say (flow.EndFlush 6)) ∷ whole.Alone (flow.MakeClaim 0 1 true) ∷ whole.Alone (flow.Learn (flow.Look 1)) ∷ whole.Alone (flow.Learn (flow.CacheRead 0 (nine ∷ []))) ∷ whole.Alone (flow.Learn (flow.Look 1)) ∷ whole.Alone (flow.BackingWrite flow.Copy 0 (nine ∷ [])) ∷ whole.Alone flow.BackingBarrier ∷ whole.Keyed (flow.Insert flow.CleanKeys 1 (clean_book ∷ [])) 1 (clean_key ∷ []) ∷ whole.Alone (flow.UnpinPlaces 29 1) ∷ whole.Alone flow.Release ∷ whole.Alone (flow.PinPlaces 30 1) ∷ []) ∙ still_29 k ne

pub did_21 : IsEnabled opening (at u21 9) 1 claim_5_act
did_21 = record {
  data_allows = (record { heard = refl; steps = tt; can = record { none = refl; inside = omega arith; apart = λ k ne. far 5 false (claim_of u21.flow k) (still_u21 k ne) } }, tt);
  asks = refl;
}

pub did_22 : IsEnabled opening (at u22 9) 1 look_act
did_22 = record {
  data_allows = (record { heard = refl; steps = tt; can = λ s c. only 5 s c (λ s. u22.flow.books.index.leaf s ≡ 1) refl }, tt);
  asks = refl;
}

pub did_23 : IsEnabled opening (at u23 9) 1 backing_read_act
did_23 = record {
  data_allows = (record { heard = inl refl; steps = tt; can = (refl, gives_one 5 blank_value (λ s v. Covers (claim_of u23.flow 1) s × Among v (u23.flow.backing.reads s)) (((omega arith), (omega arith)), inl refl)) }, tt);
  asks = refl;
}

pub did_24 : IsEnabled opening (at u24 9) 1 kept_data_act
did_24 = record {
  data_allows = (record { heard = inl refl; steps = tt; can = record { places = λ t v e. at_one 30 blank_value t v e (λ t. MayWrite setup u24.flow.books 1 flow.Data t) refl; sendable = tt } }, tt);
  asks = record { some = λ e. cc; low = omega arith; high = omega arith; bucket = omega arith };
}

pub did_25 : IsEnabled opening (at u25 9) 1 candidate_act
did_25 = record {
  data_allows = (record { heard = refl; steps = ((λ t n. in_one 30 t (λ t. IsPinned (u25.flow.books.owner t)) tt n), tt); can = record { free = refl; own = λ t n. in_one 30 t (λ t. u25.flow.books.owner t ≡ Own 1) refl n; values = λ s p e. place_one 5 30 s p (λ s p. MayKeep u25.flow 1 s p) (record { covers = ((omega arith), (omega arith)); value = blank_value; placed = refl; source = inl (record { shared = refl; looked = refl; backed = tt; read = refl }) }) e } }, tt);
  asks = refl;
}

pub did_26 : IsEnabled opening (at u26 9) 1 backing_barrier_act
did_26 = record {
  data_allows = (record { heard = inl refl; steps = tt; can = tt }, tt);
  asks = refl;
}

pub did_27 : IsEnabled opening (at u27 9) 1 settle_act
did_27 = record {
  data_allows = (
    record {
      heard = refl;
      steps = (
        record {
          whole = ((omega arith), (λ s p e. place_one 5 30 s p (λ s p. setup.bucket p ≡ 7) refl e), tt);
          inside = λ s o h. hit_one 5 (Some Clean) 30 301 s o (λ s o. (s < 8) × (u27.flow.books.index.leaf s ≡ 1)) ((omega arith), refl) h;
          lawful = λ s o h. hit_one 5 (Some Clean) 30 301 s o (λ s o. IsLawful setup.bucket u27.flow.books.generations.version u27.flow.books.owner (index.latest u27.flow.books.index s) o) (inl (tt, refl)) h;
          named = λ t n. in_one 30 t (λ t. WasPinned (u27.flow.books.owner t)) tt (named 30 t n);
        },
        ((λ t n. in_one 30 t (λ t. WasPinned (if names (kept_book ∷ []) t then Spent else u27.flow.books.owner t)) tt n), tt),
      );
      can = record { stands = refl; alive = refl; firm = refl; using = λ t n. in_one 30 t (λ t. (u27.flow.books.owner t ≡ Kept 0) ⊎ (u27.flow.books.owner t ≡ Spent)) (inl refl) (named 30 t n); hits = λ s o h. hit_one 5 (Some Clean) 30 301 s o (MaySettle opening.flow u27.flow (u27.flow.candidates 0)) (record { bare = refl; place = 30; at = refl; is = refl }) h; not_plain = refl };
    },
    tt,
  );
  asks = ((refl, same_kept), refl, (((omega arith), (omega arith)), tt));
}

pub did_28 : IsEnabled opening (at u28 9) 1 release_act
did_28 = record {
  data_allows = (record { heard = tt; steps = tt; can = tt }, tt);
  asks = refl;
}

pub did_29 : IsEnabled opening (at u29 9) 1 fault_act
did_29 = record {
  data_allows = (record { heard = inl refl; steps = tt; can = tt }, tt);
  asks = refl;
}
