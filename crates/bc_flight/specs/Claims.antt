-- Claims of ranges of sectors, and which of them exclude each other.
use Rattle.std.specs.Prelude.{◌+◌, Bool, true, false, ◌&&◌, ◌||◌, nat_lt, List, [], ◌∷◌}
use Rattle.bc_flight.specs.declared.claim.Claim.{Claim}
use Rattle.bc_flight.specs.declared.claim.Share.{Share}
use Rattle.bc_flight.specs.declared.claim.Share.TheVariants.{Shared, Exclusive}

abbrev pub is_exclusive : Share → Bool
is_exclusive Shared = false
is_exclusive Exclusive = true

-- some sector is in both ranges
abbrev pub overlaps : Claim → Claim → Bool
overlaps a b = nat_lt a.first (b.first + b.count) && nat_lt b.first (a.first + a.count)

-- the two can't stand beside each other
abbrev pub conflicts : Claim → Claim → Bool
conflicts a b = overlaps a b && (is_exclusive a.share || is_exclusive b.share)

-- one of these claims conflicts with it
abbrev pub conflicts_any : Claim → List Claim → Bool
conflicts_any a [] = false
conflicts_any a (b ∷ bs) = conflicts a b || conflicts_any a bs
