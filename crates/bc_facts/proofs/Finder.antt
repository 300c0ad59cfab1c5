-- From a kind of records, of which each place has one or none, to the facts of the machine.
use Rattle.std.proofs.Common.{◌≡◌, inl, inr, ℕ, ◌+◌, ◌-◌, ◌*◌, ◌<◌, ◌≤◌, List, length, take, Option, Some, None, sym, ap, ◌∙◌, arith, if◌then◌else◌, ◌==◌, nat_le, refl}
use Rattle.bc_model.specs.Sector.{Value, Image}
use Rattle.bc_record.specs.Kind.{Kind, sectors_of, IsFound}
use Rattle.bc_record.specs.Sectors.{bytes_to, Has, AgreeOn}
use Rattle.bc_record.specs.Codec.{Decided, IsCodec}
use Rattle.bc_record.proofs.Blocks.{blocks_hold}
use Rattle.bc_record.proofs.Parts.{bytes_in-front}
use Rattle.bc_record.proofs.Found.{found_stays}
use Rattle.bc_meta.specs.Facts.{Facts}
use Rattle.bc_meta.proofs.Lists.{by_test, by_le}
use Rattle.bc_facts.specs.Whole.{IsWhole, Spell, bytes_of_values}
use Rattle.bc_facts.specs.Layout.{AreFactsOf}
use Rattle.bc_facts.proofs.Values.{bytes_had}

some_same : {A : Type 0} → (a b : A) → Some a ≡ Some b → a ≡ b
some_same a b e = cc

-- nothing is found where nothing is read
pub no_one : {A : Type 0} (o : Option A) → ((x : A) → o ≡ Some x → ⊥) → o ≡ None
no_one None none = refl
no_one (Some x) none = absurd (none x refl)

module _ {R A : Type 0} (kind : Kind R) (codec : IsCodec kind) (seen : R → A) where
  abbrev Start : List ℕ → Type 0
  Start bytes = Decided ((r : R) × kind.Begins bytes r)

  abbrev answer : (bytes : List ℕ) (p end : ℕ) → Decided ((r : R) × kind.Begins bytes r) → Option A
  answer bytes p end (inl k) = if nat_le (p + sectors_of kind k.0) end then Some (seen k.0) else None
  answer bytes p end (inr none) = None

  abbrev pub found : Image → ℕ → ℕ → Option A
  found image end p = answer (bytes_to image end p) p end (codec.decide (bytes_to image end p))

  answer_is : (bytes : List ℕ) (p end : ℕ) (d : Decided ((r : R) × kind.Begins bytes r)) (e : A) → answer bytes p end d ≡ Some e → (r : R) × (kind.Begins bytes r × (p + sectors_of kind r ≤ end)) × (seen r ≡ e)
  answer_is bytes p end (inr none) e = λ h. absurd (cc)
  answer_is bytes p end (inl k) e =
      by_le (p + sectors_of kind k.0) end (λ b. (if b then Some (seen k.0) else None) ≡ Some e → (r : R) × (kind.Begins bytes r × (p + sectors_of kind r ≤ end)) × (seen r ≡ e))
      (λ le h. (k.0, (k.1, le), some_same (seen k.0) e h)) (λ lt h. absurd (cc))

  is_answer : (bytes : List ℕ) (p end : ℕ) (d : Decided ((r : R) × kind.Begins bytes r)) (r : R) → kind.Begins bytes r → p + sectors_of kind r ≤ end → answer bytes p end d ≡ Some (seen r)
  is_answer bytes p end (inr none) r is le = absurd (none (r, is))
  is_answer bytes p end (inl k) r is le =
      let same : k.0 ≡ r = codec.one bytes k.0 r k.1 is in
      let long = ap (λ (x : R). sectors_of kind x) same in
      by_le (p + sectors_of kind k.0) end (λ b. (if b then Some (seen k.0) else None) ≡ Some (seen r)) (λ _. ap (λ (x : R). Some (seen x)) same) (λ lt. absurd (omega arith))

  pub found_is : (image : Image) (end p : ℕ) (e : A) → found image end p ≡ Some e → (r : R) × IsWhole kind image end p r × (seen r ≡ e)
  found_is image end p e = answer_is (bytes_to image end p) p end (codec.decide (bytes_to image end p)) e

  pub is_found : (image : Image) (end p : ℕ) (r : R) → IsWhole kind image end p r → found image end p ≡ Some (seen r)
  is_found image end p r is = is_answer (bytes_to image end p) p end (codec.decide (bytes_to image end p)) r is.0 is.1

  -- ---- values that are a record

  abbrev filled : (bytes : List ℕ) (n : ℕ) → Decided ((r : R) × kind.Begins bytes r) → Option A
  filled bytes n (inl k) = if sectors_of kind k.0 == n then Some (seen k.0) else None
  filled bytes n (inr none) = None

  abbrev pub spelled : List Value → Option A
  spelled vs = filled (bytes_of_values vs) (length vs) (codec.decide (bytes_of_values vs))

  filled_is : (bytes : List ℕ) (n : ℕ) (d : Decided ((r : R) × kind.Begins bytes r)) (e : A) → filled bytes n d ≡ Some e → (r : R) × (kind.Begins bytes r × (sectors_of kind r ≡ n)) × (seen r ≡ e)
  filled_is bytes n (inr none) e = λ h. absurd (cc)
  filled_is bytes n (inl k) e =
      by_test (sectors_of kind k.0) n (λ b. (if b then Some (seen k.0) else None) ≡ Some e → (r : R) × (kind.Begins bytes r × (sectors_of kind r ≡ n)) × (seen r ≡ e))
      (λ same h. (k.0, (k.1, same), some_same (seen k.0) e h)) (λ ne h. absurd (cc))

  pub spelled_is : (vs : List Value) (e : A) → spelled vs ≡ Some e → (r : R) × Spell kind vs r × (seen r ≡ e)
  spelled_is vs e = filled_is (bytes_of_values vs) (length vs) (codec.decide (bytes_of_values vs)) e

  is_filled : (bytes : List ℕ) (n : ℕ) (d : Decided ((r : R) × kind.Begins bytes r)) (r : R) → kind.Begins bytes r → sectors_of kind r ≡ n → filled bytes n d ≡ Some (seen r)
  is_filled bytes n (inr none) r is long = absurd (none (r, is))
  is_filled bytes n (inl k) r is long =
      let same : k.0 ≡ r = codec.one bytes k.0 r k.1 is in
      by_test (sectors_of kind k.0) n (λ b. (if b then Some (seen k.0) else None) ≡ Some (seen r))
      (λ _. ap (λ (x : R). Some (seen x)) same) (λ ne. absurd (ne (ap (λ (x : R). sectors_of kind x) same ∙ long)))

  pub is_spelled : (vs : List Value) (r : R) → Spell kind vs r → spelled vs ≡ Some (seen r)
  is_spelled vs r is = is_filled (bytes_of_values vs) (length vs) (codec.decide (bytes_of_values vs)) r is.0 is.1

  -- ---- what was written is found, and it rests on its own sectors

  pub stays : (a b : Image) (end p : ℕ) (e : A) (n : ℕ) → ((r : R) → seen r ≡ e → sectors_of kind r ≡ n) → found a end p ≡ Some e → AgreeOn a b p (p + n) → found b end p ≡ Some e
  stays a b end p e n long is same =
      let k = found_is a end p e is in
      let m : sectors_of kind k.0 ≡ n = long k.0 k.2 in
      let fits = k.1.1 in
      is_found b end p k.0 (found_stays kind codec a b end p k.0 k.1.0 (λ t from to. same t from (omega arith)) fits, fits) ∙ ap Some k.2

  pub reads_back : (image : Image) (end p : ℕ) (vs : List Value) (e : A) → spelled vs ≡ Some e → Has image p vs → p + length vs ≤ end → found image end p ≡ Some e
  reads_back image end p vs e is has le =
      let k = spelled_is vs e is in
      let long = k.1.1 in
      let held = blocks_hold kind.block (kind.bytes k.0) codec.block in
      let begins : IsFound kind image end p k.0 =
      codec.stays (bytes_of_values vs) (bytes_to image end p) k.0 k.1.0
      (bytes_in-front image p (length vs) (end - p) (kind.bytes k.0) (omega (arith, le)) (omega (arith, held, long)) ∙ ap (take (kind.bytes k.0)) (bytes_had image p vs has)) in
      is_found image end p k.0 (begins, omega (arith, long, le)) ∙ ap Some k.2

-- the facts of records that are read in several ways
module _ {O R A : Type 0} (block : ℕ) (kind : O → Kind R) (codec : (o : O) → IsCodec (kind o)) (seen : O → R → A) (len : A → ℕ)
    (some : (e : A) → 0 < len e) (whole : (e : A) → (k : ℕ) × (len e ≡ block * k)) (len_is : (o : O) (r : R) → len (seen o r) ≡ sectors_of (kind o) r) where
  pub long_is : (o : O) (e : A) (r : R) → seen o r ≡ e → sectors_of (kind o) r ≡ len e
  long_is o e r is = sym (len_is o r) ∙ ap len is

  abbrev pub facts : Facts block O A
  facts = record {
    len = len;
    some = some;
    whole = whole;
    spelled = λ o vs. spelled (kind o) (codec o) (seen o) vs;
    long = λ o vs e is. let k = spelled_is (kind o) (codec o) (seen o) vs e is in sym k.1.1 ∙ long_is o e k.0 k.2;
    found = λ image o end p. found (kind o) (codec o) (seen o) image end p;
    fits = λ image o end p e is. let k = found_is (kind o) (codec o) (seen o) image end p e is in let fits = k.1.1 in let n = long_is o e k.0 k.2 in omega arith;
    reads_back = λ image o end p vs e is has le.
        let k = spelled_is (kind o) (codec o) (seen o) vs e is in
        let n : length vs ≡ len e = sym k.1.1 ∙ long_is o e k.0 k.2 in
        reads_back (kind o) (codec o) (seen o) image end p vs e is has (omega arith);
    stays = λ a b o end p e is same. stays (kind o) (codec o) (seen o) a b end p e (len e) (long_is o e) is same;
  }

  pub are_facts : AreFactsOf kind seen facts
  are_facts = record {
    long = len_is;
    found = λ image o end p e. (found_is (kind o) (codec o) (seen o) image end p e, λ k. is_found (kind o) (codec o) (seen o) image end p k.0 k.1 ∙ ap Some k.2);
    spelled = λ o vs e. (spelled_is (kind o) (codec o) (seen o) vs e, λ k. is_spelled (kind o) (codec o) (seen o) vs k.0 k.1 ∙ ap Some k.2);
  }
