-- What is said is sealed as the net seals.
use Rattle.std.proofs.Common.{◌≡◌, ℕ, ◌+◌, ◌<◌, List, [], ◌∷◌, ◌++◌, length, drop, get_or, IsSome, refl, ap, sym, subst, ◌∙◌, append_assoc}
use Rattle.std.proofs.lemmas.List.{drop_more}
use Rattle.cs_base.specs.declared.config.Config.{Config}
use Rattle.cs_base.specs.declared.node_id.NodeId.{NodeId}
use Rattle.cs_wire_message.specs.declared.message.Message.{Message}
use Rattle.cs_base.specs.declared.version.Version.TheVariants.{One}
use Rattle.cs_wire_message.specs.Message.{kind_of, body_of, MessageFits}
use Rattle.cs_wire.specs.declared.input.Out.{Out}
use Rattle.cs_wire.specs.declared.keys.Keys.{Keys}
use Rattle.cs_wire.specs.Keys.{row_of}
use Rattle.cs_wire.specs.Datagram.{datagram_with}
use Rattle.cs_wire.specs.Raw.{SealsWith}
use Rattle.cs_ledger.specs.Ledger.{Bytes}
use Rattle.cs_node_rules.specs.Net.{Net, sealed_by_net}
use Rattle.cs_node_rules.specs.Signs.{Sign, Dropped, Took, Entered, Viewed, Did, Headed, Kept, Sent}
use Rattle.cs_node.specs.declared.draft.Said.{Said}
use Rattle.cs_node.specs.Notes.{AllSaidFit, AllReached, said_of, to_each, spoken, outs_of, outs_for}
use Rattle.cs_node.specs.Speaking.{Speaks}

-- what was sealed is the datagram of the net
pub sealed-so : (config : Config) (net : Net) (keys : Keys) → Speaks config net keys → (to : NodeId) (kind : ℕ) (body old bytes : Bytes) → old ≡ [] → SealsWith keys to kind body old bytes → bytes ≡ net.datagram keys.me to kind body
sealed-so config net keys speaks to kind body old bytes none s =
    s.is ∙ ap (λ (o : Bytes). o ++ datagram_with keys.version s.row.to keys.me to kind body) none ∙ speaks.seals to s.row s.held kind body

-- and of a message's kind and body it is the message's
pub written-so : (net : Net) (me to : NodeId) (m : Message) (kind : ℕ) (body : Bytes) → kind ≡ kind_of m → body ≡ body_of net.version m → net.datagram me to kind body ≡ sealed_by_net net me to m
written-so net me to m kind body is-kind is-body =
    ap (λ (k : ℕ). net.datagram me to k body) is-kind ∙ ap (net.datagram me to (kind_of m)) is-body

pub outs-more : (net : Net) (me : NodeId) (xs ys : List (NodeId × Message)) → outs_for net me (xs ++ ys) ≡ outs_for net me xs ++ outs_for net me ys
outs-more net me [] ys = refl
outs-more net me (x ∷ xs) ys = ap (λ (outs : List Out). record { to = x.0; bytes = sealed_by_net net me x.0 x.1 } ∷ outs) (outs-more net me xs ys)

pub outs-same : (net : Net) (me : NodeId) (signs : List Sign) → outs_for net me (said_of signs) ≡ outs_of net me signs
outs-same net me [] = refl
outs-same net me (Dropped cause ∷ past) = outs-same net me past
outs-same net me (Took sender vote x ∷ past) = outs-same net me past
outs-same net me (Entered x ∷ past) = outs-same net me past
outs-same net me (Viewed slot view ∷ past) = outs-same net me past
outs-same net me (Headed number head ∷ past) = outs-same net me past
outs-same net me (Kept index checkpoint ∷ past) = outs-same net me past
outs-same net me (Did slot place entry effect ∷ past) = outs-same net me past
outs-same net me (Sent to message ∷ past) =
    outs-more net me (said_of past) ((to, message) ∷ [])
    ∙ ap (λ (outs : List Out). outs ++ record { to = to; bytes = sealed_by_net net me to message } ∷ []) (outs-same net me past)

-- ---- one after the other

-- what is left fits
pub rest-fits : (all : List Said) (i : ℕ) (d : Said) → i < length all → AllSaidFit (drop i all) → MessageFits One (get_or all i d).message × AllSaidFit (drop (i + 1) all)
rest-fits all i d lt fits = subst AllSaidFit (drop_more all i d lt) fits

-- of the names that are left, the first is reached
pub names-reached : (keys : Keys) (m : Message) (names : List NodeId) (i : ℕ) (d : NodeId) → i < length names → AllReached keys (to_each (drop i names) m) → IsSome (row_of (get_or names i d) keys) × AllReached keys (to_each (drop (i + 1) names) m)
names-reached keys m names i d lt reached = subst (λ (rest : List NodeId). AllReached keys (to_each rest m)) (drop_more names i d lt) reached

split-reached : (keys : Keys) (xs ys : List (NodeId × Message)) → AllReached keys (xs ++ ys) → AllReached keys xs × AllReached keys ys
split-reached keys [] ys reached = (tt, reached)
split-reached keys (x ∷ xs) ys reached = let rest : AllReached keys xs × AllReached keys ys = split-reached keys xs ys reached.1 in ((reached.0, rest.0), rest.1)

-- of what is left to be said, the first is for those who are reached
pub rest-reached : (keys : Keys) (all : List Said) (i : ℕ) (d : Said) → i < length all → AllReached keys (spoken (drop i all)) → AllReached keys (to_each (get_or all i d).to (get_or all i d).message) × AllReached keys (spoken (drop (i + 1) all))
rest-reached keys all i d lt reached =
    split-reached keys (to_each (get_or all i d).to (get_or all i d).message) (spoken (drop (i + 1) all)) (subst (λ (rest : List Said). AllReached keys (spoken rest)) (drop_more all i d lt) reached)

-- the same of what stands there
pub first-reached : (keys : Keys) (all : List Said) (i : ℕ) (x : Said) → i < length all → x ≡ get_or all i x → AllReached keys (spoken (drop i all)) → AllReached keys (to_each x.to x.message) × AllReached keys (spoken (drop (i + 1) all))
first-reached keys all i x lt is reached =
    subst (λ (y : Said). AllReached keys (to_each y.to y.message) × AllReached keys (spoken (drop (i + 1) all))) (sym is) (rest-reached keys all i x lt reached)

-- one more was sealed
pub names-sealed : (net : Net) (me : NodeId) (m : Message) (outs outs' whole : List Out) (names : List NodeId) (i : ℕ) (d : NodeId) → i < length names
    → outs' ≡ outs ++ record { to = get_or names i d; bytes = sealed_by_net net me (get_or names i d) m } ∷ []
    → outs ++ outs_for net me (to_each (drop i names) m) ≡ whole → outs' ++ outs_for net me (to_each (drop (i + 1) names) m) ≡ whole
names-sealed net me m outs outs' whole names i d lt grew so-far =
    let out : Out = record { to = get_or names i d; bytes = sealed_by_net net me (get_or names i d) m } in
    ap (λ (o : List Out). o ++ outs_for net me (to_each (drop (i + 1) names) m)) grew
    ∙ append_assoc outs (out ∷ []) (outs_for net me (to_each (drop (i + 1) names) m))
    ∙ ap (λ (rest : List NodeId). outs ++ outs_for net me (to_each rest m)) (sym (drop_more names i d lt))
    ∙ so-far

-- what was written once was sealed for one more, who has a key
pub name-sealed : (net : Net) (keys : Keys) (m : Message) (kind : ℕ) (body : Bytes) (outs outs' whole : List Out) (names : List NodeId) (i : ℕ) (d : NodeId) → i < length names
    → kind ≡ kind_of m → body ≡ body_of net.version m
    → (IsSome (row_of (get_or names i d) keys) → outs' ≡ outs ++ record { to = get_or names i d; bytes = net.datagram keys.me (get_or names i d) kind body } ∷ [])
    → AllReached keys (to_each (drop i names) m) × (outs ++ outs_for net keys.me (to_each (drop i names) m) ≡ whole)
    → AllReached keys (to_each (drop (i + 1) names) m) × (outs' ++ outs_for net keys.me (to_each (drop (i + 1) names) m) ≡ whole)
name-sealed net keys m kind body outs outs' whole names i d lt is-kind is-body grew so-far =
    let next : IsSome (row_of (get_or names i d) keys) × AllReached keys (to_each (drop (i + 1) names) m) = names-reached keys m names i d lt so-far.0 in
    let grown : Bytes → List Out = λ bytes. outs ++ record { to = get_or names i d; bytes = bytes } ∷ [] in (
      next.1,
      names-sealed net keys.me m outs outs' whole names i d lt
          (grew next.0 ∙ ap grown (written-so net keys.me (get_or names i d) m kind body is-kind is-body))
          so-far.1,
    )

pub rest-sealed : (net : Net) (me : NodeId) (outs outs' whole : List Out) (all : List Said) (i : ℕ) (d : Said) → i < length all → d ≡ get_or all i d
    → outs' ≡ outs ++ outs_for net me (to_each d.to d.message)
    → outs ++ outs_for net me (spoken (drop i all)) ≡ whole → outs' ++ outs_for net me (spoken (drop (i + 1) all)) ≡ whole
rest-sealed net me outs outs' whole all i d lt is sealed so-far =
    let first : List (NodeId × Message) = to_each (get_or all i d).to (get_or all i d).message in
    let grew : outs' ≡ outs ++ outs_for net me first = subst (λ (y : Said). outs' ≡ outs ++ outs_for net me (to_each y.to y.message)) is sealed in
    ap (λ (o : List Out). o ++ outs_for net me (spoken (drop (i + 1) all))) grew
    ∙ append_assoc outs (outs_for net me first) (outs_for net me (spoken (drop (i + 1) all)))
    ∙ ap (λ (o : List Out). outs ++ o) (sym (outs-more net me first (spoken (drop (i + 1) all))))
    ∙ ap (λ (rest : List Said). outs ++ outs_for net me (spoken rest)) (sym (drop_more all i d lt))
    ∙ so-far
