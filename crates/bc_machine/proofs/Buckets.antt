-- What a part of buckets has beside records and lists stays where these change.
use Rattle.std.proofs.Common.{◌≡◌, ◌≢◌, ◌⊎◌, inl, inr, ℕ, ◌+◌, ◌<◌, ◌≤◌, Bool, false, List, Option, length, get_or, sym, ap, ◌∙◌, subst}
use Rattle.std.specs.Prelude.{Vec, slice_index_or}
use Rattle.std.specs.declared.alloc.Global.{Global}
use Rattle.std.proofs.lemmas.Bool.{cases_eq, cases_lt}
use Rattle.std.proofs.lemmas.List.{set_past}
use Rattle.bc_alloc.proofs.Fits.{other_stays, this_changes}
use Rattle.bc_books.specs.Books.{Setup}
use Rattle.bc_books.specs.Round.{Round}
use Rattle.bc_bucket.specs.Bucket.{no_bucket}
use Rattle.bc_bucket.specs.Buckets.{Buckets, bucket_of, changed}
use Rattle.bc_bucket.specs.declared.bucket.Bucket.{Bucket}
use Rattle.bc_machine.specs.declared.part.BucketsPart.{BucketsPart}
use Rattle.bc_machine.specs.declared.part.Tracing.{Tracing}
use Rattle.bc_machine.specs.Containers.{IsChainOf, IsRoundOf, SameRest}

pub chain_stays : (before sets : ℕ) (of : ℕ → Option ℕ) (ready sealed : ℕ) (p q : BucketsPart)
    → SameRest p q → IsChainOf before sets of ready sealed p.chain.items p.renewing
    → IsChainOf before sets of ready sealed q.chain.items q.renewing
chain_stays before sets of ready sealed p q same h =
    subst (λ (b : Bool). IsChainOf before sets of ready sealed q.chain.items b) (sym same.renewing)
    (subst (λ (c : Vec ℕ Global). IsChainOf before sets of ready sealed c.items p.renewing)
    (sym same.chain) h)

-- of buckets as many as before, of which the same are touched
pub round_stays : (w : Setup) (before : ℕ) (x : Round) (p q : BucketsPart) (b : Buckets)
    → SameRest p q → q.buckets ≡ b → length b.records ≡ length p.buckets.records
    → b.touched ≡ p.buckets.touched
    → IsRoundOf w before (length p.buckets.records) x p.buckets.touched p.round
    → IsRoundOf w before (length q.buckets.records) x q.buckets.touched q.round
round_stays w before x p q b same is long touched h =
    subst (λ (c : Buckets). IsRoundOf w before (length c.records) x c.touched q.round) (sym is)
    (subst (λ (t : Tracing). IsRoundOf w before (length b.records) x b.touched t) (sym same.round)
    (subst (λ n. IsRoundOf w before n x b.touched p.round) (sym long)
    (subst (λ (l : List Bool). IsRoundOf w before (length p.buckets.records) x l p.round)
    (sym touched) h)))

-- where it is said anew which ones are touched
pub touched_round : (w : Setup) (before : ℕ) (x : Round) (t : Tracing) (touches : ℕ → Bool)
    (count : ℕ) (old new : List Bool) → length new ≡ count
    → ((q : ℕ) → before + q < count → slice_index_or new (before + q) false ≡ touches q)
    → IsRoundOf w before count x old t
    → IsRoundOf w before count (record x { touched = touches }) new t
touched_round w before x t touches count old new each is h = record {
  going = h.going;
  each = each;
  touches = is;
  walked = h.walked;
  unseen = h.unseen;
  long = h.long;
  found = h.found;
}

-- a change of one bucket that leaves its mark
pub mark_stays : (f : Bucket → Bucket) → ((x : Bucket) → (f x).mark ≡ x.mark) → (k : ℕ)
    (b : Buckets) (n : ℕ) → (bucket_of (changed f k b) n).mark ≡ (bucket_of b n).mark
mark_stays f keeps k b n = go (cases_eq n k) (cases_lt k (length b.records))
  where
    go : (n ≡ k) ⊎ (n ≢ k) → (k < length b.records) ⊎ (length b.records ≤ k)
        → (bucket_of (changed f k b) n).mark ≡ (bucket_of b n).mark
    go (inl e) (inl lt) = subst (λ i. (bucket_of (changed f k b) i).mark ≡ (bucket_of b i).mark)
        (sym e) (ap (λ (x : Bucket). x.mark) (this_changes f k b lt) ∙ keeps (bucket_of b k))
    go (inl e) (inr le) = ap (λ (xs : List Bucket). (get_or xs n no_bucket).mark)
        (set_past b.records k (f (bucket_of b k)) le)
    go (inr ne) h = ap (λ (x : Bucket). x.mark) (other_stays f k b n ne)
