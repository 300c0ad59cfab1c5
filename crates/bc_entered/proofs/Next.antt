-- The entry that is sealed behind a journal that was read is an opening's entry over the reading.
use Rattle.std.proofs.Common.{◌≡◌, ℕ, ◌*◌, List, [], ◌∷◌, ◌++◌, length, refl, sym, ap, ◌∙◌, subst, zero, suc, take, drop, arith}
use Rattle.std.proofs.lemmas.List.{length-drop, length-take-le, take-append-drop}
use Rattle.bc_model.specs.Sector.{Value, sectors, values_of}
use Rattle.bc_model.proofs.Sectors.{length_sectors, values_whole}
use Rattle.bc_record.proofs.Parts.{sector_of_whole}
use Rattle.bc_jset.specs.EntryBytes.{IsEntry}
use Rattle.bc_jset.specs.Entries.{FoundEntry, StandIn}
use Rattle.bc_jset.specs.Records.{entry_sectors}
use Rattle.bc_jset.proofs.Entries.{newest_is_last}
use Rattle.bc_journal.specs.Sealed.{sector_at}
use Rattle.bc_facts.specs.Whole.{bytes_of_values}
use Rattle.bc_enter.specs.Entry.{GoesTo, IsOpeningEntry}
use Rattle.bc_entered.specs.Laws.{LawNext}

-- two ends of a list are one entry
one_end : (xs ys : List FoundEntry) (a b : FoundEntry) → xs ++ a ∷ [] ≡ ys ++ b ∷ [] → a ≡ b
one_end [] [] a b same = cc
one_end [] (y ∷ []) a b same = absurd (cc)
one_end [] (y ∷ (z ∷ ys)) a b same = absurd (cc)
one_end (x ∷ []) [] a b same = absurd (cc)
one_end (x ∷ (z ∷ xs)) [] a b same = absurd (cc)
one_end (x ∷ xs) (y ∷ ys) a b same = one_end xs ys a b (tails x y (xs ++ a ∷ []) (ys ++ b ∷ []) same)
  where
    tails : (x y : FoundEntry) (xs ys : List FoundEntry) → x ∷ xs ≡ y ∷ ys → xs ≡ ys
    tails x y xs ys same = cc

-- ---- whole sectors as values and back

turned : (n : ℕ) (bytes : List ℕ) → length bytes ≡ 512 * n → bytes_of_values (sectors n bytes) ≡ bytes
turned zero [] whole = refl
turned zero (x ∷ xs) whole = absurd (omega arith)
turned (suc n) bytes whole =
    let one = length-take-le 512 bytes (omega (arith, whole)) in
    let rest : length (drop 512 bytes) ≡ 512 * n = omega (arith, length-drop 512 bytes, whole) in
    ap (λ (v : List ℕ). v ++ bytes_of_values (sectors n (drop 512 bytes))) (sector_of_whole (take 512 bytes) one)
    ∙ ap (λ (bs : List ℕ). take 512 bytes ++ bs) (turned n (drop 512 bytes) rest)
    ∙ take-append-drop 512 bytes

values_back : (n : ℕ) (bytes : List ℕ) → length bytes ≡ 512 * n → bytes_of_values (values_of bytes) ≡ bytes
values_back n bytes whole = ap bytes_of_values (values_whole n bytes whole) ∙ turned n bytes whole

values_long : (n : ℕ) (bytes : List ℕ) → length bytes ≡ 512 * n → n ≡ length (values_of bytes)
values_long n bytes whole = sym (ap (λ (vs : List Value). length vs) (values_whole n bytes whole) ∙ length_sectors n bytes)

pub law_next : LawNext
law_next g image r read s bytes reading journal same next are no_torn =
    let last = newest_is_last g image r.entries reading.entries in
    let newest : next.newest ≡ r.newest = one_end next.older last.0 next.newest reading.entries.newest (sym next.parts ∙ same ∙ last.1) ∙ reading.newest in
    let size = values_long (entry_sectors g s.entry) bytes are.whole in
    record {
      entry = subst (λ (es : List FoundEntry). IsOpeningEntry es r.newest s.entry) same (subst (λ (n : FoundEntry). IsOpeningEntry read.entries n s.entry) newest next.entry);
      all = read.all;
      stand = subst (λ (es : List FoundEntry). StandIn g image g.journal es) journal.all journal.entries.stand;
      place = subst (λ (es : List FoundEntry). GoesTo g read.all es r.newest (length (values_of bytes)) s.place.bucket (sector_at g s.place)) same
          (subst (λ (n : FoundEntry). GoesTo g read.all read.entries n (length (values_of bytes)) s.place.bucket (sector_at g s.place)) newest
          (subst (λ n. GoesTo g read.all read.entries next.newest n s.place.bucket (sector_at g s.place)) size next.place));
      spells = (subst (λ (bs : List ℕ). IsEntry g.set_magic bs s.entry) (sym (values_back (entry_sectors g s.entry) bytes are.whole)) are.entry, size);
      no_torn = no_torn;
    }
