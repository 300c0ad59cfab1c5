-- The laws on what a crash leaves behind a closing.
use Rattle.std.proofs.Common.{◌≡◌, inl, ℕ, ◌==◌, ◌%◌, Bool, true, false, Option, Some, None, refl, sym, ap, ◌∙◌, if◌then◌else◌}
use Rattle.bc_model.specs.Sector.{Value, Image}
use Rattle.bc_books.specs.Index.{Clean, Dirty, Pointer, first_hit, over}
use Rattle.bc_books.specs.Versions.{is_stale}
use Rattle.bc_books.specs.Laws.{durable_snapshot}
use Rattle.bc_books.specs.Example.{key, gap}
use Rattle.bc_data.specs.Laws as flow_law
use Rattle.bc_crash.proofs.Broken as broken
use Rattle.bc_meta.specs.Keys.{Ref, last_ref}
use Rattle.bc_whole.specs.Together.{gen_from}
use Rattle.bc_whole.specs.Laws.{shown_by, keys_in}
use Rattle.bc_whole.proofs.Crash.{safe_at, closed_at}
use Rattle.bc_known.proofs.Law.{inv_at}
use Rattle.bc_events.specs.Run.{start, run}
use Rattle.bc_events.proofs.Machine.{law_crash}
use Rattle.bc_always.specs.Crash.{LawClosed, LawClean, LawCleanInMemory, LawClosesClean}
use Rattle.bc_always.proofs.Raise.{at_state}

pub law_closed : LawClosed
law_closed w x n es sound on chance closed c b left =
    (law_crash w x n es sound on chance c b left, λ r s. r.closed closed s)

-- A sector whose last key, if it is live, is clean, and then both devices have its value.
module _ (bucket gen : ℕ → ℕ) (c : Image) (v : Value) where
  abbrev IsDirtyStale : Option Ref → Type 0
  IsDirtyStale o = (r : Ref) → o ≡ Some r → r.dirty ≡ true
      → is_stale (gen (bucket r.place)) r.generation ≡ true

  abbrev IsCleanSame : Option Ref → Type 0
  IsCleanSame o = (r : Ref) → o ≡ Some r → r.dirty ≡ false
      → is_stale (gen (bucket r.place)) r.generation ≡ false → c r.place ≡ v

  same_of : (r : Ref) (stale dirty : Bool) → is_stale (gen (bucket r.place)) r.generation ≡ stale
      → r.dirty ≡ dirty → IsDirtyStale (Some r) → IsCleanSame (Some r)
      → v ≡ (if stale then v else c r.place)
  same_of r true dirty s d none same = refl
  same_of r false false s d none same = sym (same r refl d s)
  same_of r false true s d none same = absurd (let x = none r refl d in cc)

  backed : (o : Option Ref) → IsDirtyStale o → IsCleanSame o → v ≡ shown_by bucket gen o c v
  backed None none same = refl
  backed (Some r) none same =
      same_of r (is_stale (gen (bucket r.place)) r.generation) r.dirty refl refl none same

pub law_clean : LawClean
law_clean w x n es sound on chance closed c b left =
    let st = (run w (start w x n) es).machine.whole in (
      law_crash w x n es sound on chance c b left,
      λ r none s.
          backed w.machine.flow.books.bucket (gen_from w.machine.before r.chain.gens) c (b s)
          (last_ref (keys_in w.machine st c r.newest r.older) s) (none s) (r.agree s) ∙ r.closed closed s,
    )

-- the same of the index in memory, by versions
module _ (bucket version : ℕ → ℕ) (c : Image) (v : Value) where
  abbrev IsSame : Option Pointer → Type 0
  IsSame o = (r : Pointer) → o ≡ Some r
      → is_stale (version (bucket r.place) % 256) (r.version % 256) ≡ false → c r.place ≡ v

  same_at : (r : Pointer) (stale : Bool)
      → is_stale (version (bucket r.place) % 256) (r.version % 256) ≡ stale → IsSame (Some r)
      → v ≡ (if stale then v else c r.place)
  same_at r true is same = refl
  same_at r false is same = sym (same r refl is)

  backed_at : (o : Option Pointer) → IsSame o → v ≡ flow_law.shown_by bucket version o c v
  backed_at None same = refl
  backed_at (Some r) same =
      same_at r (is_stale (version (bucket r.place) % 256) (r.version % 256)) refl same

pub law_clean_in_memory : LawCleanInMemory
law_clean_in_memory w x n es sound on closed clean c b left s =
    let st = (run w (start w x n) es).machine.whole in
    let k = st.flow.books in
    let has = (inv_at w.machine x st sound (at_state w x n es sound on).at).flow in
    let safe = safe_at w.machine x sound.whole st.flow has (durable_snapshot k) c b (inl refl)
    left.0 left.1 s in
    backed_at w.machine.flow.books.bucket k.generations.durable c (b s)
    (k.index.at k.journal.durable s) (λ r is live. safe.agree r is (clean s r
    (ap (λ (i : ℕ). k.index.at i s) (sym closed.journal) ∙ is)) live)
    ∙ closed_at w.machine x sound.whole st.flow has closed (durable_snapshot k) c b (inl refl)
    left.0 left.1 s

kind_of_some : (a b : Pointer) → a.kind ≡ Clean → Some a ≡ Some b → b.kind ≡ Clean
kind_of_some a b clean e = cc

none_some : (r : Pointer) → None ≡ Some r → ⊥
none_some r e = cc

-- the last keys, by which sector it is
abbrev last_key : (first second third : Bool) → Option Pointer
last_key first second third =
    over (first_hit (gap 2 1) (if third then Some 0 else None) None)
    (over (first_hit (key 2 1 Clean 2) (if third then Some 2 else None) None)
    (over (first_hit (key 0 2 Clean 0)
    (if first then Some 0 else (if second then Some 1 else None)) None)
    (over (first_hit (key 0 2 Dirty 0)
    (if first then Some 0 else (if second then Some 1 else None)) None) None)))

last_clean : (first second third : Bool) (r : Pointer) → last_key first second third ≡ Some r
    → r.kind ≡ Clean
last_clean first second true r e = absurd (none_some r e)
last_clean true second false r e = kind_of_some _ r refl e
last_clean false true false r e = kind_of_some _ r refl e
last_clean false false false r e = absurd (none_some r e)

pub law_closes_clean : LawClosesClean
law_closes_clean = record {
  run = broken.law_closes.run;
  closed = broken.law_closes.closed;
  clean = λ s r e. last_clean (0 == s) (1 == s) (2 == s) r e;
  some = refl;
}
