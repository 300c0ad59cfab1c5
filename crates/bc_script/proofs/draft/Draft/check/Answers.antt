use Rattle.std.proofs.Common.{◌≡◌, ◌<◌, ◌+◌, length, arith, length-append}
use Rattle.bc_script.proofs.Lines.{refused_long, refused_many}
use Rattle.bc_script.proofs.draft.Draft.check.Goals as goal

pub returns-then-len-eq-MOST_LINES-clause-text : goal.returns-then-len-eq-MOST_LINES-clause-text
returns-then-len-eq-MOST_LINES-clause-text c = λ text left some h.
    let full : length c.args.self.now.lines.items ≡ 262144 = omega arith in
    let all = length-append c.args.bytes.now left in
    refused_many text _ _ _ _ _ full (c.requires.draft.full full) (omega arith) c.refusal.ensures h

pub returns-then-bytes-len-clause-text : goal.returns-then-bytes-len-clause-text
returns-then-bytes-len-clause-text c = λ text left some h.
    let few = c.requires.draft.trace.few in
    let less : length c.args.self.now.lines.items < 262144 = omega arith in
    let long : 80 < length c.args.self.now.part.items + length c.args.bytes.now = omega arith in
    refused_long text _ _ _ c.args.bytes.now left _ less c.requires.part long c.refusal-then-bytes-len.ensures h
