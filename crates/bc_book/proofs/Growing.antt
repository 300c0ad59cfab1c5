-- A pass that grows by one event.
use Rattle.std.proofs.Common.{◌≡◌, ℕ, ◌+◌, ◌≤◌, List, [], ◌∷◌, ◌++◌, length, Option, Some, None}
use Rattle.std.proofs.Common.{refl, sym, ap, ◌∙◌, subst, append_assoc, append-nil, arith}
use Rattle.std.proofs.Common.{length-append}
use Rattle.std.specs.Prelude.{option_to_list, fold}
use Rattle.bc_model.specs.declared.history.Entry.{Entry}
use Rattle.bc_disk.specs.declared.disk.Device.{Device}
use Rattle.bc_events.specs.declared.event.Event.{Event}
use Rattle.bc_events.specs.Columns.{entry_by, entries_of, halt_after, halt_of}
use Rattle.bc_book.specs.declared.pass.Record.{Record}
use Rattle.bc_book.specs.declared.pass.Pass.{Pass}
use Rattle.bc_book.specs.declared.filed.Places.{Places}
use Rattle.bc_book.specs.declared.filed.Aside.{Aside}
use Rattle.bc_book.specs.declared.filed.Aside.TheVariants as aside
use Rattle.bc_book.specs.declared.filed.Filed.{Filed}
use Rattle.bc_book.specs.Pass.{Kept, kept_of, event_of, events_by, events_in}
use Rattle.bc_book.specs.Filed.{GrowsTo, EndAt, with_entry, with_aside, kept_after, IsFiled, IsKept}
use Rattle.bc_book.proofs.Lists.{stays_same, stays_more}

-- ---- the lists

grows_same : (ks : Kept) → GrowsTo ks ks
grows_same ks = record {
  entries = stays_same ks.entries;
  beside = stays_same ks.beside;
  readings = stays_same ks.readings;
  insertions = stays_same ks.insertions;
  others = stays_same ks.others;
}

grows_on : (a b d : Kept) → GrowsTo a b → GrowsTo b d → GrowsTo a d
grows_on a b d f g = record {
  entries = λ k x h. g.entries k x (f.entries k x h);
  beside = λ k x h. g.beside k x (f.beside k x h);
  readings = λ k x h. g.readings k x (f.readings k x h);
  insertions = λ k x h. g.insertions k x (f.insertions k x h);
  others = λ k x h. g.others k x (f.others k x h);
}

grows_entry : (ks : Kept) (o : Option Entry) → GrowsTo ks (with_entry ks o)
grows_entry ks None = grows_same ks
grows_entry ks (Some x) = record {
  entries = stays_more ks.entries (x ∷ []);
  beside = stays_same ks.beside;
  readings = stays_same ks.readings;
  insertions = stays_same ks.insertions;
  others = stays_same ks.others;
}

grows_aside : (ks : Kept) (a : Aside) → GrowsTo ks (with_aside ks a)
grows_aside ks aside.Nothing = grows_same ks
grows_aside ks (aside.Values x) = record {
  entries = stays_same ks.entries;
  beside = stays_more ks.beside (x ∷ []);
  readings = stays_same ks.readings;
  insertions = stays_same ks.insertions;
  others = stays_same ks.others;
}
grows_aside ks (aside.Reading x) = record {
  entries = stays_same ks.entries;
  beside = stays_same ks.beside;
  readings = stays_more ks.readings (x ∷ []);
  insertions = stays_same ks.insertions;
  others = stays_same ks.others;
}
grows_aside ks (aside.Insertion x) = record {
  entries = stays_same ks.entries;
  beside = stays_same ks.beside;
  readings = stays_same ks.readings;
  insertions = stays_more ks.insertions (x ∷ []);
  others = stays_same ks.others;
}
grows_aside ks (aside.Deed x) = record {
  entries = stays_same ks.entries;
  beside = stays_same ks.beside;
  readings = stays_same ks.readings;
  insertions = stays_same ks.insertions;
  others = stays_more ks.others (x ∷ []);
}

grows_after : (ks : Kept) (t : Filed) → GrowsTo ks (kept_after ks t)
grows_after ks t =
    grows_on ks (with_entry ks t.entry) (kept_after ks t) (grows_entry ks t.entry)
    (grows_aside (with_entry ks t.entry) t.aside)

entries_aside : (ks : Kept) (a : Aside) → (with_aside ks a).entries ≡ ks.entries
entries_aside ks aside.Nothing = refl
entries_aside ks (aside.Values x) = refl
entries_aside ks (aside.Reading x) = refl
entries_aside ks (aside.Insertion x) = refl
entries_aside ks (aside.Deed x) = refl

entries_entry : (ks : Kept) (o : Option Entry)
    → (with_entry ks o).entries ≡ ks.entries ++ option_to_list o
entries_entry ks None = sym (append-nil ks.entries)
entries_entry ks (Some x) = refl

-- ---- the events

events_more : (ks : Kept) (rs : List Record) (r : Record)
    → events_by ks (rs ++ r ∷ []) ≡ events_by ks rs ++ event_of ks r ∷ []
events_more ks [] r = refl
events_more ks (q ∷ rs) r = ap (λ (l : List Event). event_of ks q ∷ l) (events_more ks rs r)

entries_more : (es : List Event) (e : Event)
    → entries_of (es ++ e ∷ []) ≡ entries_of es ++ option_to_list (entry_by e.deed)
entries_more [] e = append-nil (option_to_list (entry_by e.deed))
entries_more (x ∷ xs) e =
    let new = option_to_list (entry_by x.deed) in
    ap (λ (l : List Entry). new ++ l) (entries_more xs e)
    ∙ sym (append_assoc new (entries_of xs) (option_to_list (entry_by e.deed)))

halt_from : (h : Option Device) (es : List Event) (e : Event)
    → fold halt_after h (es ++ e ∷ []) ≡ halt_after (fold halt_after h es) e
halt_from h [] e = refl
halt_from h (x ∷ xs) e = halt_from (halt_after h x) xs e

-- an event more halts as it does behind the others
pub halt_more : (es : List Event) (e : Event) → halt_of (es ++ e ∷ []) ≡ halt_after (halt_of es) e
halt_more es e = halt_from None es e

-- ---- the pass

-- the same lists make the same pass
pub record Same (p q : Pass) : Type 0 where
  pub events : events_in q ≡ events_in p
  pub kept : IsKept q

pub same : (p q : Pass) → IsKept p → kept_of q ≡ kept_of p → q.records.items ≡ p.records.items
    → Same p q
same p q is ks rs =
    let events : events_in q ≡ events_in p =
    ap (λ (k : Kept). events_by k q.records.items) ks
    ∙ ap (λ (l : List Record). events_by (kept_of p) l) rs in
    record {
      events = events;
      kept = record {
        entries = ap (λ (k : Kept). k.entries) ks ∙ is.entries
            ∙ ap (λ (l : List Event). entries_of l) (sym events);
        stay = λ more grows. ap (λ (l : List Record). events_by more l) rs
            ∙ is.stay more (subst (λ (k : Kept). GrowsTo k more) ks grows)
            ∙ sym events;
      };
    }

-- an event more
pub record Grown (p q : Pass) (e : Event) : Type 0 where
  pub events : events_in q ≡ events_in p ++ e ∷ []
  pub kept : IsKept q

module _ (p q : Pass) (t : Filed) (e : Event) (at : Places)
    (is : IsKept p) (ends : EndAt (kept_of p) at) (filed : IsFiled at t e)
    (ks : kept_of q ≡ kept_after (kept_of p) t)
    (rs : q.records.items ≡ p.records.items ++ t.record ∷ []) where
  filed_with : (more : Kept) → GrowsTo (kept_after (kept_of p) t) more
      → events_by more q.records.items ≡ events_in p ++ e ∷ []
  filed_with more grows =
      ap (λ (l : List Record). events_by more l) rs
      ∙ events_more more p.records.items t.record
      ∙ ap (λ (l : List Event). l ++ event_of more t.record ∷ [])
      (is.stay more (grows_on (kept_of p) _ more (grows_after (kept_of p) t) grows))
      ∙ ap (λ (x : Event). events_in p ++ x ∷ []) (filed.tells (kept_of p) more ends grows)

  events : events_in q ≡ events_in p ++ e ∷ []
  events =
      filed_with (kept_of q)
      (subst (λ (k : Kept). GrowsTo k (kept_of q)) ks (grows_same (kept_of q)))

  entries : q.entries.items ≡ entries_of (events_in q)
  entries =
      ap (λ (k : Kept). k.entries) ks
      ∙ entries_aside (with_entry (kept_of p) t.entry) t.aside
      ∙ entries_entry (kept_of p) t.entry
      ∙ ap (λ (l : List Entry). l ++ option_to_list t.entry) is.entries
      ∙ ap (λ (o : Option Entry). entries_of (events_in p) ++ option_to_list o) filed.entry
      ∙ sym (entries_more (events_in p) e)
      ∙ sym (ap (λ (l : List Event). entries_of l) events)

  pub grown : Grown p q e
  grown = record {
    events = events;
    kept = record {
      entries = entries;
      stay = λ more grows.
          filed_with more (subst (λ (k : Kept). GrowsTo k more) ks grows) ∙ sym events;
    };
  }

-- ---- places

-- the next places of the lists of a pass
abbrev pub ends_of : Pass → Places
ends_of p = record {
  entries = length p.entries.items;
  beside = length p.beside.items;
  readings = length p.readings.items;
  insertions = length p.insertions.items;
  others = length p.others.items;
}

pub ends_at : (p : Pass) → EndAt (kept_of p) (ends_of p)
ends_at p = record {
  entries = refl;
  beside = refl;
  readings = refl;
  insertions = refl;
  others = refl;
}

-- ---- room

-- one item more takes one place of the room
pub room_more : {A : Type 0} (xs ys : List A) (x : A) (n cap more : ℕ)
    → length xs + (n + 1) ≤ cap → cap ≤ more → ys ≡ xs ++ x ∷ [] → length ys + n ≤ more
room_more {A = A} xs ys x n cap more fits grows e =
    let h : length ys ≡ length xs + 1 =
    ap (λ (l : List A). length l) e ∙ length-append xs (x ∷ []) in
    omega arith
