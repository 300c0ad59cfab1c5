-- The bytes of an entry with zeros behind it.
use Rattle.std.proofs.Common.{◌≡◌, ℕ, ◌+◌, ◌-◌, ◌*◌, ◌≤◌, List, length, take, drop, ◌++◌, replicate, refl, sym, subst, ap, ◌∙◌, append_assoc, arith}
use Rattle.std.specs.Prelude.{All}
use Rattle.std.proofs.Math.Seq.{take-append_seam, drop-append_seam}
use Rattle.std.proofs.lemmas.List.{length-append, length-drop, length-take-le, length-replicate}
use Rattle.std.proofs.lemmas.List.Elements.{All-replicate}
use Rattle.bc_disk.specs.declared.geometry.Geometry.{Geometry}
use Rattle.bc_jset.specs.declared.entry.JEntry.{JEntry}
use Rattle.bc_jset.specs.EntryBytes.{IsEntry, bytes_of}
use Rattle.bc_jset.specs.Records.{entry_sectors}
use Rattle.bc_journal.specs.Sealed.{AreBytesOf}

take_front : (n : ℕ) (xs ys : List ℕ) → n ≡ length xs → take n (xs ++ ys) ≡ xs
take_front n xs ys is = ap (λ k. take k (xs ++ ys)) is ∙ take-append_seam xs ys

drop_front : (n : ℕ) (xs ys : List ℕ) → n ≡ length xs → drop n (xs ++ ys) ≡ ys
drop_front n xs ys is = ap (λ k. drop k (xs ++ ys)) is ∙ drop-append_seam xs ys

pub bytes_with_zeros : (g : Geometry) (e : JEntry) (whole end : ℕ) (mid zeros rest : List ℕ)
    → end ≡ bytes_of e → whole ≡ 512 * entry_sectors g e → end ≤ whole → whole ≤ length mid → zeros ≡ replicate (length (take (whole - end) (drop end mid))) 0
    → ((more : List ℕ) → IsEntry g.set_magic (take end mid ++ more) e) → AreBytesOf g e (take whole (take end mid ++ (zeros ++ rest)))
bytes_with_zeros g e whole end mid zeros rest ends is_whole low room filled written =
    let part : length (drop end mid) ≡ length mid - end = length-drop end mid in
    let are : zeros ≡ replicate (whole - end) 0 = filled ∙ ap (λ n. replicate n 0) (length-take-le (whole - end) (drop end mid) (omega (arith, part))) in
    let front : length (take end mid) ≡ end = length-take-le end mid (omega arith) in
    let behind : length zeros ≡ whole - end = ap length are ∙ length-replicate (whole - end) 0 in
    let both : length (take end mid ++ zeros) ≡ whole = length-append (take end mid) zeros ∙ (let n : length (take end mid) + length zeros ≡ whole = omega arith in n) in
    let same : take whole (take end mid ++ (zeros ++ rest)) ≡ take end mid ++ zeros =
    ap (take whole) (sym (append_assoc (take end mid) zeros rest)) ∙ take_front whole (take end mid ++ zeros) rest (sym both) in
    let gone : drop (bytes_of e) (take end mid ++ zeros) ≡ replicate (whole - end) 0 = drop_front (bytes_of e) (take end mid) zeros (sym (front ∙ ends)) ∙ are in
    subst (λ (bs : List ℕ). AreBytesOf g e bs) (sym same) (record {
      whole = both ∙ is_whole;
      entry = written zeros;
      zeros = subst (λ (bs : List ℕ). All (λ b. b ≡ 0) bs) (sym gone) (All-replicate (λ b. b ≡ 0) (whole - end) 0 (refl {a = 0}));
    })
