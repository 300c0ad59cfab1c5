-- What the machine reads is what the formats say.
use Rattle.std.proofs.Common.{◌≡◌, ◌≢◌, ℕ, ◌-◌, ◌<◌, sym, ap, ◌∙◌, arith}
use Rattle.bc_model.specs.Sector.{Image}
use Rattle.bc_model.specs.Pattern.{zeros}
use Rattle.bc_disk.specs.declared.geometry.Geometry.{Geometry}
use Rattle.bc_bytes.specs.Fields.{number_at}
use Rattle.bc_jset.proofs.Records as entries
use Rattle.bc_set.proofs.Records as sets
use Rattle.bc_meta.specs.Entries.{Entry}
use Rattle.bc_meta.specs.Tree.{NodeSet}
use Rattle.bc_meta.specs.Layout.{Layout, PrioSet}
use Rattle.bc_facts.specs.Layout.{IsLayoutOf}
use Rattle.bc_facts.specs.Laws.{ReadsEntries, ReadsSets, ReadsChain, ReadsZeros}
use Rattle.bc_facts.specs.Seen.{kind_of}
use Rattle.bc_facts.proofs.Journal.{read_entries}
use Rattle.bc_facts.proofs.Nodes.{sets_are}
use Rattle.bc_facts.proofs.Chain.{read_chain}
use Rattle.bc_facts.proofs.Opened.{opened_entries, opened_chain}
use Rattle.bc_record.specs.Sectors.{bytes_to}
use Rattle.bc_record.proofs.Parts.{length-bytes_in, zeros_in_front}
use Rattle.bc_keys.proofs.WordsAt.{number_at-front}
use Rattle.bc_disk.specs.Chain.{bucket_bytes}
use Rattle.bc_prio.specs.Set.{magic_of}
use Rattle.bc_prio.specs.Records.{part_kind}
use Rattle.std.proofs.Common.{List, length, take}
use Rattle.std.proofs.lemmas.List.{length-take, take-take}
use Rattle.bc_facts.proofs.Finder.{no_one}

pub reads_entries : (g : Geometry) (w : Layout) → IsLayoutOf g w → (image : Image) → ReadsEntries g w image
reads_entries g w layout image = record {
  found = λ newest older are. let r = read_entries g w layout image newest older are in (r.es, r.are, r.seen, r.newest_is);
  read = λ es a no_stray. let o = opened_entries g w layout image es a no_stray in (o.older, o.seen, o.are);
}

pub reads_sets : (g : Geometry) (w : Layout) → IsLayoutOf g w → (image : Image) → ReadsSets g w image
reads_sets g w layout image o q ss within are = sets_are g w layout image o q ss within are

pub reads_chain : (g : Geometry) (w : Layout) → IsLayoutOf g w → 0 < g.journal → (image : Image) (first : ℕ) → ReadsChain g w image first
reads_chain g w layout some image first = record {
  found = λ buckets gens distinct is. let r = read_chain g w layout image some first buckets gens distinct is in (r.found, r.are, r.chain, r.gens_are);
  read = λ gens are. (opened_chain g w layout image some first gens are).found;
}

-- the magic of a priority set would be zero
no_prio : (g : Geometry) (image : Image) (end place part : ℕ) (bytes : List ℕ) → image place ≡ zeros → magic_of g ≢ 0 → (part_kind g part).Begins (bytes_to image end place) bytes → ⊥
unfolding number_at zeros
no_prio g image end place part bytes is some begins =
    let from = g.bucket_from in
    let whole = begins.0.whole in
    let cut = begins.1 in
    let long = ap (λ (l : List ℕ). length l) cut in
    let room : 0 < end - place = omega (arith, whole, from, long, length-take (bucket_bytes g) (bytes_to image end place), length-bytes_in image place (end - place)) in
    let front : take 512 bytes ≡ take 512 zeros =
    ap (take 512) (sym cut) ∙ take-take 512 (bucket_bytes g) (bytes_to image end place) (omega (arith, from)) ∙ zeros_in_front image end place is room in
    let none : number_at 8 bytes 8 ≡ 0 = number_at-front 8 bytes zeros 8 512 front (omega arith) in
    some (sym begins.0.magic ∙ none)

pub reads_zeros : (g : Geometry) (w : Layout) → IsLayoutOf g w → (image : Image) (end place : ℕ) → image place ≡ zeros → ReadsZeros g w image end place
reads_zeros g w layout image end place is = record {
  entry = no_one (w.entries.found image tt end place) (λ (e : Entry) found. let k = (layout.entries.found image tt end place e).0 found in entries.none_in_zeros g image end place k.0 is k.1.0);
  set = λ o. no_one (w.sets.found image o end place) (λ (e : NodeSet) found. let k = (layout.sets.found image o end place e).0 found in sets.none_in_zeros g o.word (kind_of o.leaf) image end place k.0 is k.1.0);
  prio = λ part some. no_one (w.prios.found image part end place) (λ (e : PrioSet) found. let k = (layout.prios.found image part end place e).0 found in no_prio g image end place part k.0 is some k.1.0);
}
