use Rattle.std.proofs.Common.{◌≡◌, ◌≢◌, ℕ, ◌+◌, ◌<◌, ◌^◌, ◌∷◌, drop, Some, refl, subst, ◌∙◌, arith}
use Rattle.std.proofs.lemmas.Result.{err_from_is_err_and}
use Rattle.cs_journal.proofs.Gates.{another_kind, tick_finds, datagram_finds}
use Rattle.cs_journal.proofs.Findings.{gate_fails, header_fails, gate_shows}
use Rattle.cs_journal.proofs.recovery.Recovery.next.Goals as goal

pub returns-in_err-gate-clause-found : goal.returns-in_err-gate-clause-found
returns-in_err-gate-clause-found g c = λ id inputs file told read.
    let p = err_from_is_err_and c.from_residual.result c.from_residual.ensures.1 in
    rw (p.1, p.2) (gate_fails id inputs c.args.self.now file c.args.buf.now read c.args.self.now c.in_err-gate.field-0.0 (c.in_err-gate.ensures.gate file told read.whole))

pub returns-then-gate-ne1-clause-found : goal.returns-then-gate-ne1-clause-found
returns-then-gate-ne1-clause-found g c = λ id inputs file told read.
    let closed : c.in_ok-gate.gate ≢ 1 = omega arith in
    gate_shows id inputs c.args.self.now file c.args.buf.now read c.args.self.now c.in_ok-gate.gate refl closed (c.in_ok-gate.ensures.gate file told read.whole)

pub returns-in_err-kind-clause-found : goal.returns-in_err-kind-clause-found
returns-in_err-kind-clause-found g c = λ id inputs file told read.
    let self = c.args.self.now in
    let then : g.D.Disk.content c.gate.new.disk ≡ Some file = c.gate.ensures.untouched.same ∙ told in
    let here : drop self.at file ≡ c.in_ok-gate.gate ∷ drop (self.at + 1) file = c.in_ok-gate.ensures.gate file told read.whole in
    let opened : drop self.at file ≡ 1 ∷ drop (self.at + 1) file = subst (λ (gate : ℕ). drop self.at file ≡ gate ∷ drop (self.at + 1) file) c.if-gate-ne1.false here in
    let p = err_from_is_err_and c.from_residual-in_err-kind.result c.from_residual-in_err-kind.ensures.1 in
    rw (p.1, p.2) (header_fails id inputs self file c.args.buf.now read self c.in_err-kind.field-0.0 opened (c.in_err-kind.ensures.header file then read.whole))

pub returns-in-0-clause-found : goal.returns-in-0-clause-found
returns-in-0-clause-found g c = λ id inputs file told read.
    let self = c.args.self.now in
    let then : g.D.Disk.content c.gate.new.disk ≡ Some file = c.gate.ensures.untouched.same ∙ told in
    let here : drop self.at file ≡ c.in_ok-gate.gate ∷ drop (self.at + 1) file = c.in_ok-gate.ensures.gate file told read.whole in
    let opened : drop self.at file ≡ 1 ∷ drop (self.at + 1) file = subst (λ (gate : ℕ). drop self.at file ≡ gate ∷ drop (self.at + 1) file) c.if-gate-ne1.false here in
    let few : c.in_ok-kind.count < 2 ^ 32 = omega arith in
    tick_finds id inputs self file read opened c.in_ok-kind.kind c.in_ok-kind.count few (c.in_ok-kind.ensures.header file then read.whole) c.tick.new.self c.args.buf.now c.tick.result c.in-0.is c.tick.ensures.length c.tick.ensures.tick

pub returns-in-1-clause-found : goal.returns-in-1-clause-found
returns-in-1-clause-found g c = λ id inputs file told read.
    let self = c.args.self.now in
    let then : g.D.Disk.content c.gate.new.disk ≡ Some file = c.gate.ensures.untouched.same ∙ told in
    let last : g.D.Disk.content c.header.new.disk ≡ Some file = c.header.ensures.untouched.same ∙ then in
    let here : drop self.at file ≡ c.in_ok-gate.gate ∷ drop (self.at + 1) file = c.in_ok-gate.ensures.gate file told read.whole in
    let opened : drop self.at file ≡ 1 ∷ drop (self.at + 1) file = subst (λ (gate : ℕ). drop self.at file ≡ gate ∷ drop (self.at + 1) file) c.if-gate-ne1.false here in
    let few : c.in_ok-kind.count < 2 ^ 32 = omega arith in
    datagram_finds id inputs self file read opened c.in_ok-kind.kind c.in_ok-kind.count few (c.in_ok-kind.ensures.header file then read.whole) c.datagram.new.self c.datagram.new.buf c.datagram.result c.in-1.is c.datagram.ensures.length (c.datagram.ensures.datagram file last read.whole)

pub returns-in_default-clause-found : goal.returns-in_default-clause-found
returns-in_default-clause-found g c = λ id inputs file told read.
    let self = c.args.self.now in
    let then : g.D.Disk.content c.gate.new.disk ≡ Some file = c.gate.ensures.untouched.same ∙ told in
    let here : drop self.at file ≡ c.in_ok-gate.gate ∷ drop (self.at + 1) file = c.in_ok-gate.ensures.gate file told read.whole in
    let opened : drop self.at file ≡ 1 ∷ drop (self.at + 1) file = subst (λ (gate : ℕ). drop self.at file ≡ gate ∷ drop (self.at + 1) file) c.if-gate-ne1.false here in
    let few : c.in_ok-kind.count < 2 ^ 32 = omega arith in
    another_kind id inputs self file read opened c.in_ok-kind.kind c.in_ok-kind.count few (c.in_ok-kind.ensures.header file then read.whole) (omega arith) (omega arith)
