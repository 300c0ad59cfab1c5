-- Openings again.
use Rattle.std.proofs.Common.{subst, ◌≡◌, inl, inr, ℕ, List, [], ◌∷◌, ◌++◌, refl, sym, ap, ◌∙◌, arith}
use Rattle.std.specs.Prelude.{map}
use Rattle.bc_model.specs.Sector.{Image}
use Rattle.bc_disk.specs.declared.geometry.Geometry.{Geometry}
use Rattle.bc_jset.proofs.Ring.{one_next}
use Rattle.bc_jset.specs.Ring.{IsNextPlace, bucket_of}
use Rattle.bc_meta.specs.Entries.{Entry, live}
use Rattle.bc_meta.specs.Layout.{Layout, image_keys}
use Rattle.bc_meta.specs.Acts.{State}
use Rattle.bc_meta.specs.Laws.{IsSound, Opening, Survives, reached}
use Rattle.bc_meta.proofs.Acts as acts
use Rattle.bc_image.specs.Reading.{IsReading, Reading}
use Rattle.bc_image.proofs.Unique.{one_reading}
use Rattle.bc_facts.specs.Layout.{IsLayoutOf}
use Rattle.bc_facts.specs.Reads.{back}
use Rattle.bc_facts.proofs.Place.{place}
use Rattle.bc_facts.proofs.Torn.{no_chance}
use Rattle.bc_remains.specs.Means.{Means}
use Rattle.bc_remains.specs.Laws.{IsLeft, IsOpened, LawNext, LawOne}
use Rattle.bc_remains.proofs.Crash.{finds, reads}

-- ---- an opening that means a reading goes on where the format says

module _ (g : Geometry) (w : Layout) (layout : IsLayoutOf g w) where
  -- any sound opening means what is read of its image
  pub means : (o : Opening) → IsSound w o → (r : Reading) × IsReading g o.image r × Means g r o.newest o.older (image_keys w o.owners o.image o.newest o.older) o.chain o.gens
  means o sound =
      let j = layout.journal in
      let current = sound.whole.current in
      reads g w layout o.image o.owners o.newest o.older (image_keys w o.owners o.image o.newest o.older) o.chain o.gens o.unused (omega arith)
      sound.whole.sound.entries sound.whole.sound.whole sound.named sound.keeps (sound.outside 0 (inl (omega arith))) (λ s. refl) sound.distinct sound.chain

  pub reopened : (o : Opening) → IsSound w o → (r : Reading) → IsReading g o.image r → IsOpened g w o.image r
  reopened o sound r is =
      let m = means o sound in
      let one : m.0 ≡ r = one_reading g o.image m.0 r m.1 is in
      let said : Means g r o.newest o.older (image_keys w o.owners o.image o.newest o.older) o.chain o.gens =
      subst (λ (x : Reading). Means g x o.newest o.older (image_keys w o.owners o.image o.newest o.older) o.chain o.gens) one m.2 in
      let p = place g w layout o.image r.entries is.entries o.newest o.older said.entries in
      record {
        opening = record {
          image = o.image;
          owners = o.owners;
          newest = o.newest;
          older = o.older;
          ring = p.ring;
          ring_next = p.ring_next;
          bucket = p.bucket;
          unused = o.unused;
          chain = o.chain;
          gens = o.gens;
          spare = o.spare;
        };
        image_is = refl;
        sound = record {
          whole = record {
            sound = sound.whole.sound;
            room = p.room;
            stands = p.stands;
            inside = p.inside;
            only_ring = p.only_ring;
            current = p.current;
            stray = sound.whole.stray;
          };
          keeps = sound.keeps;
          outside = sound.outside;
          named = sound.named;
          chain = sound.chain;
          distinct = sound.distinct;
          free = sound.free;
          spare = sound.spare;
          spare_distinct = sound.spare_distinct;
          spare_count = sound.spare_count;
        };
        opens = record {
          means = said;
          bucket = p.at ∙ ap (λ e. bucket_of g e) is.newest;
          next = subst (λ e. IsNextPlace g r.entries e (p.ring_next p.bucket)) is.newest p.next;
        };
      }

  opened_at : (image : Image) (o : Opening) → o.image ≡ image → IsSound w o → (r : Reading) → IsReading g image r → IsOpened g w image r
  opened_at image o same sound r is = subst (λ (i : Image). IsReading g i r → IsOpened g w i r) same (reopened o sound r) is

  next : (image : Image) (st : State) → Survives w st image → (r : Reading) × IsReading g image r × IsLeft g st r × IsOpened g w image r
  next image st s = elim s.finds [
    | inl f ↦
        (let k = finds g w layout image st st.places.records.newest st.places.records.older st.places.records.index st.durable_chain f in
        (k.0, k.1, inl k.2, opened_at image f.opening f.image_is f.sound k.0 k.1))
    | inr f ↦
        (let k = finds g w layout image st st.places.records.entry (live st.places.records.entry.last_seq (st.places.records.newest ∷ st.places.records.older)) (st.places.records.entry.keys ++ st.places.records.index) st.sealed_chain f.1 in
        (k.0, k.1, inr (f.0, k.2), opened_at image f.1.opening f.1.image_is f.1.sound k.0 k.1))
  ]

pub law_next : LawNext
law_next g w o acts_ run image left =
    next g w run.layout image (reached w o acts_)
    (acts.law_crash w o acts_ run.sound run.run (no_chance g w run.layout o.image (reached w o acts_).places run.no_torn) image left)

-- ---- one opening

head_same : (x y : Entry) (xs ys : List Entry) → x ∷ xs ≡ y ∷ ys → x ≡ y
head_same x y xs ys e = cc

tail_same : (x y : Entry) (xs ys : List Entry) → x ∷ xs ≡ y ∷ ys → xs ≡ ys
tail_same x y xs ys e = cc

back_same : (g : Geometry) (xs ys : List ℕ) → map (back g) xs ≡ map (back g) ys → xs ≡ ys
back_same g [] [] e = refl
back_same g [] (y ∷ ys) e = absurd (cc)
back_same g (x ∷ xs) [] e = absurd (cc)
back_same g (x ∷ xs) (y ∷ ys) e =
    let h : back g x ≡ back g y = front e in
    let first : x ≡ y = omega (arith, h) in
    ap (λ n. n ∷ xs) first ∙ ap (λ (l : List ℕ). y ∷ l) (back_same g xs ys (rest e))
  where
    front : back g x ∷ map (back g) xs ≡ back g y ∷ map (back g) ys → back g x ≡ back g y
    front k = cc

    rest : back g x ∷ map (back g) xs ≡ back g y ∷ map (back g) ys → map (back g) xs ≡ map (back g) ys
    rest k = cc

pub law_one : LawOne
law_one g w r a b p q =
    let entries = sym p.means.entries ∙ q.means.entries in
    let bucket : a.bucket ≡ b.bucket = let e = p.bucket in let f = q.bucket in omega (arith, e, f) in
    record {
      newest = head_same a.newest b.newest a.older b.older entries;
      older = tail_same a.newest b.newest a.older b.older entries;
      keys = λ s. sym (p.means.keys s) ∙ q.means.keys s;
      chain = back_same g a.chain b.chain (sym p.means.chain ∙ q.means.chain);
      gens = sym p.means.gens_are ∙ q.means.gens_are;
      bucket = bucket;
      next = one_next g r.entries r.newest (a.ring_next a.bucket) (b.ring_next b.bucket) p.next q.next;
    }
