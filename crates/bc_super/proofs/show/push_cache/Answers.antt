use Rattle.std.proofs.Common.{◌≡◌, ◌∙◌, ◌/◌, ◌%◌, ◌^◌, ◌++◌, refl, ap}
use Rattle.std.specs.Prelude.{codes}
use Rattle.std.specs.Fmt.{decimal}
use Rattle.std.specs.String.{string_bytes}
use Rattle.bc_super.specs.Show.{pair, replacement_text}
use Rattle.bc_super.proofs.Texts.{added, ended_so}
use Rattle.bc_super.proofs.show.push_cache.Goals as goal

pub returns : goal.returns
returns c =
    let old = string_bytes c.args.text.now in
    let start : string_bytes c.push_str.new.self ≡ old ++ codes "cache" = c.in_ok-push_str.ensures.bytes in
    let with_version = added old (codes "cache") (codes "version") (decimal c.args.c.now.version) (decimal c.args.c.now.version) (string_bytes c.push_str.new.self) (string_bytes c.push_number.new.text) start c.in_ok-push_number.ensures (refl) in
    let with_block = added old (codes "cache" ++ pair (codes "version") (decimal c.args.c.now.version)) (codes "block") (decimal c.from.result) (decimal c.args.c.now.block) (string_bytes c.push_number.new.text) (string_bytes c.push_number-2.new.text) with_version c.in_ok-push_number-2.ensures (ap decimal c.from.ensures) in
    let with_bucket = added old (codes "cache" ++ pair (codes "version") (decimal c.args.c.now.version) ++ pair (codes "block") (decimal c.args.c.now.block)) (codes "bucket") (decimal c.from-2.result) (decimal c.args.c.now.bucket) (string_bytes c.push_number-2.new.text) (string_bytes c.push_number-3.new.text) with_block c.in_ok-push_number-3.ensures (ap decimal c.from-2.ensures) in
    let with_buckets = added old (codes "cache" ++ pair (codes "version") (decimal c.args.c.now.version) ++ pair (codes "block") (decimal c.args.c.now.block) ++ pair (codes "bucket") (decimal c.args.c.now.bucket)) (codes "buckets") (decimal c.from-3.result) (decimal c.args.c.now.nbuckets) (string_bytes c.push_number-3.new.text) (string_bytes c.push_number-4.new.text) with_bucket c.in_ok-push_number-4.ensures (ap decimal c.from-3.ensures) in
    let with_first = added old (codes "cache" ++ pair (codes "version") (decimal c.args.c.now.version) ++ pair (codes "block") (decimal c.args.c.now.block) ++ pair (codes "bucket") (decimal c.args.c.now.bucket) ++ pair (codes "buckets") (decimal c.args.c.now.nbuckets)) (codes "first") (decimal c.from-4.result) (decimal c.args.c.now.first_bucket) (string_bytes c.push_number-4.new.text) (string_bytes c.push_number-5.new.text) with_buckets c.in_ok-push_number-5.ensures (ap decimal c.from-4.ensures) in
    let with_journal = added old (codes "cache" ++ pair (codes "version") (decimal c.args.c.now.version) ++ pair (codes "block") (decimal c.args.c.now.block) ++ pair (codes "bucket") (decimal c.args.c.now.bucket) ++ pair (codes "buckets") (decimal c.args.c.now.nbuckets) ++ pair (codes "first") (decimal c.args.c.now.first_bucket)) (codes "journal") (decimal c.from-5.result) (decimal c.args.c.now.journal) (string_bytes c.push_number-5.new.text) (string_bytes c.push_number-6.new.text) with_first c.in_ok-push_number-6.ensures (ap decimal c.from-5.ensures) in
    let with_replacement = added old (codes "cache" ++ pair (codes "version") (decimal c.args.c.now.version) ++ pair (codes "block") (decimal c.args.c.now.block) ++ pair (codes "bucket") (decimal c.args.c.now.bucket) ++ pair (codes "buckets") (decimal c.args.c.now.nbuckets) ++ pair (codes "first") (decimal c.args.c.now.first_bucket) ++ pair (codes "journal") (decimal c.args.c.now.journal)) (codes "replacement") (c.replacement_word.result.now) (replacement_text (c.args.c.now.flags / 2 ^ 2 % 2 ^ 3)) (string_bytes c.push_number-6.new.text) (string_bytes c.push_pair.new.text) with_journal c.in_ok-push_pair.ensures (c.replacement_word.ensures ∙ ap replacement_text c.replacement.ensures) in
    let with_sync = added old (codes "cache" ++ pair (codes "version") (decimal c.args.c.now.version) ++ pair (codes "block") (decimal c.args.c.now.block) ++ pair (codes "bucket") (decimal c.args.c.now.bucket) ++ pair (codes "buckets") (decimal c.args.c.now.nbuckets) ++ pair (codes "first") (decimal c.args.c.now.first_bucket) ++ pair (codes "journal") (decimal c.args.c.now.journal) ++ pair (codes "replacement") (replacement_text (c.args.c.now.flags / 2 ^ 2 % 2 ^ 3))) (codes "sync") (decimal c.sync.result) (decimal (c.args.c.now.flags % 2)) (string_bytes c.push_pair.new.text) (string_bytes c.push_number-7.new.text) with_replacement c.in_ok-push_number-7.ensures (ap decimal c.sync.ensures) in
    let with_discard = added old (codes "cache" ++ pair (codes "version") (decimal c.args.c.now.version) ++ pair (codes "block") (decimal c.args.c.now.block) ++ pair (codes "bucket") (decimal c.args.c.now.bucket) ++ pair (codes "buckets") (decimal c.args.c.now.nbuckets) ++ pair (codes "first") (decimal c.args.c.now.first_bucket) ++ pair (codes "journal") (decimal c.args.c.now.journal) ++ pair (codes "replacement") (replacement_text (c.args.c.now.flags / 2 ^ 2 % 2 ^ 3)) ++ pair (codes "sync") (decimal (c.args.c.now.flags % 2))) (codes "discard") (decimal c.discard.result) (decimal (c.args.c.now.flags / 2 % 2)) (string_bytes c.push_number-7.new.text) (string_bytes c.push_number-8.new.text) with_sync c.in_ok-push_number-8.ensures (ap decimal c.discard.ensures) in
    ended_so c.push_str-2.result old (codes "cache" ++ pair (codes "version") (decimal c.args.c.now.version) ++ pair (codes "block") (decimal c.args.c.now.block) ++ pair (codes "bucket") (decimal c.args.c.now.bucket) ++ pair (codes "buckets") (decimal c.args.c.now.nbuckets) ++ pair (codes "first") (decimal c.args.c.now.first_bucket) ++ pair (codes "journal") (decimal c.args.c.now.journal) ++ pair (codes "replacement") (replacement_text (c.args.c.now.flags / 2 ^ 2 % 2 ^ 3)) ++ pair (codes "sync") (decimal (c.args.c.now.flags % 2)) ++ pair (codes "discard") (decimal (c.args.c.now.flags / 2 % 2))) (codes "\n") (string_bytes c.push_number-8.new.text) (string_bytes c.push_str-2.new.self) with_discard c.push_str-2.ensures.bytes
