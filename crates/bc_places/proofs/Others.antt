-- An opening, a place that isn't given, and other events.
use Rattle.std.proofs.Common.{◌≡◌, inl, inr, ℕ, ◌+◌, ◌<◌, List, Option, Some, None, refl, sym, ap, ◌∙◌, subst}
use Rattle.bc_alloc.specs.declared.purpose.Purpose.TheVariants as list
use Rattle.bc_alloc.specs.Reserve.{times}
use Rattle.bc_alloc.specs.Reserves.{Reserves, list_of}
use Rattle.bc_books.specs.Shelves.{Shelf, Loose, Listed, Raised, Open, Owner, Fresh, Own, Kept, Spent, Plain, by_room}
use Rattle.bc_books.specs.Shelves as shelf
use Rattle.bc_books.specs.Books.{Books}
use Rattle.bc_events.specs.Acts.{purpose_of}
use Rattle.bc_fill.specs.declared.fill.Open as fill
use Rattle.bc_fill.specs.Fill.{bucket_numbers}
use Rattle.bc_shares.specs.Shares.{Unused, use_of, SameBuckets, BucketsShare, books_of}
use Rattle.bc_shares.proofs.Law.{law_buckets}
use Rattle.bc_events.specs.Run.{after}
use Rattle.bc_places.specs.Stands.{AreJust, StandFor}
use Rattle.bc_places.specs.Laws.{LawBegins, LawRefused, LawKept}
use Rattle.bc_places.proofs.Lists.{none_in, same}

-- ---- an opening

listed_at : (o : Option shelf.Purpose) (p : shelf.Purpose) → by_room o ≡ Listed p → o ≡ Some p
listed_at None p e = absurd (cc)
listed_at (Some q) p e = ap Some (one q p e)
  where
    one : (a b : shelf.Purpose) → Listed a ≡ Listed b → a ≡ b
    one a b e = cc

never_open : (o : Option shelf.Purpose) → by_room o ≡ Open → ⊥
never_open None e = cc
never_open (Some q) e = cc

never_raised : (o : Option shelf.Purpose) → by_room o ≡ Raised → ⊥
never_raised None e = cc
never_raised (Some q) e = cc

pub law_begins : LawBegins
law_begins w before size r lists none = record {
  opens = record {
    buckets = record {
      behind = λ k some. absurd (none_in k some);
      each = λ q some. absurd (none_in (before + q) some);
      all = λ q is. absurd (never_open (w.listed q) is);
    };
    free = λ t is. absurd is;
    given = λ j t some lo hi is. absurd (none_in j some);
  };
  lists = record {
    lists = λ p. same before (list_of p r).buckets (λ q. w.listed q ≡ Some (purpose_of p))
        (λ q. by_room (w.listed q) ≡ Listed (purpose_of p)) (lists p)
        (λ q is. ap by_room is) (λ q is. listed_at (w.listed q) (purpose_of p) is);
    raised = subst (λ (ks : List ℕ). AreJust before ks (λ q. by_room (w.listed q) ≡ Raised)) (sym none) (record {
      behind = λ k some. absurd (none_in k some);
      each = λ q some. absurd (none_in (before + q) some);
      all = λ q is. absurd (never_raised (w.listed q) is);
    });
  };
}

-- ---- no place

pub law_refused : LawRefused
law_refused w k before size r h none = record {
  none_open = λ q is. none_in (before + q) (h.opens.buckets.all q is);
  none_ready = λ seat q can. elim can [
    | inl is ↦ wrong q is
    | inr (inl is) ↦ wrong q is
    | inr (inr is) ↦ (let other = is.0 in cc)
  ];
}
  where
    wrong : (q : ℕ) → k.shelf q ≡ Listed Plain → ⊥
    wrong q is =
        none_in (before + q) (subst (λ (ks : List ℕ). 0 < times (before + q) ks) none ((h.lists.lists list.Plain).all q is))

-- ---- other events

unused_is : (x : Owner) → use_of x ≡ Unused → x ≡ Fresh
unused_is Fresh e = refl
unused_is (Own i) e = absurd (cc)
unused_is (Kept c) e = absurd (cc)
unused_is Spent e = absurd (cc)

still : (before size : ℕ) (fs : List fill.Open) (r : Reserves) (a b : Books) → SameBuckets a b
    → StandFor before size fs r a → StandFor before size fs r b
still before size fs r a b alike h = record {
  opens = record {
    buckets = same before (bucket_numbers fs) (λ q. a.shelf q ≡ Open) (λ q. b.shelf q ≡ Open)
        h.opens.buckets (λ q is. shelf_is q ∙ is) (λ q is. sym (shelf_is q) ∙ is);
    free = λ t is. forth t (h.opens.free t is);
    given = λ j t some lo hi is. h.opens.given j t some lo hi (back t is);
  };
  lists = record {
    lists = λ p. same before (list_of p r).buckets (λ q. a.shelf q ≡ Listed (purpose_of p))
        (λ q. b.shelf q ≡ Listed (purpose_of p)) (h.lists.lists p) (λ q is. shelf_is q ∙ is)
        (λ q is. sym (shelf_is q) ∙ is);
    raised = same before r.raised (λ q. a.shelf q ≡ Raised) (λ q. b.shelf q ≡ Raised)
        h.lists.raised (λ q is. shelf_is q ∙ is) (λ q is. sym (shelf_is q) ∙ is);
  };
}
  where
    shelf_is : (q : ℕ) → b.shelf q ≡ a.shelf q
    shelf_is q = ap (λ (x : BucketsShare). x.shelf q) alike.share

    forth : (t : ℕ) → a.owner t ≡ Fresh → b.owner t ≡ Fresh
    forth t is = unused_is (b.owner t) (alike.uses t ∙ ap use_of is)

    back : (t : ℕ) → b.owner t ≡ Fresh → a.owner t ≡ Fresh
    back t is = unused_is (a.owner t) (sym (alike.uses t) ∙ ap use_of is)

pub law_kept : LawKept
law_kept w st e size fs r on off h = still w.machine.before size fs r (books_of st.machine)
    (books_of (after w st e).machine) (law_buckets w st e on off) h
