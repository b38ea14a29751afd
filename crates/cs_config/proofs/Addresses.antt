-- Texts that write an address.
use Rattle.std.proofs.Common.{◌≡◌, ℕ, List, [], ◌∷◌, Option, Some, None, option_map, refl, sym, ap, subst, ◌∙◌, append-nil, length, lit≤, ne_eqb, arith}
use Rattle.std.specs.Option.{option_or}
use Rattle.std.specs.declared.net.ip_addr.IpAddr.{IpAddr}
use Rattle.std.specs.declared.net.ip_addr.IpAddr.TheVariants.{V4, V6}
use Rattle.std.specs.Net.Grammar.{IsDotted, IsColonHex, IsIpText}
use Rattle.std.specs.Net.Reader.{Read, read_ipv4, read_ipv6, whole_value}
use Rattle.std.proofs.NetLemmas.Ipv4.{read_ipv4_complete, read_ipv4_sound}
use Rattle.std.proofs.NetLemmas.Ipv6.{read_ipv6_complete, read_ipv6_sound, EndsGroups-nil, IsDotted-not_colon_hex}
use Rattle.cs_config.specs.Hosts.{address_of}

-- what is read of a whole text is read with nothing left
whole_of : {A : Type 0} (read : Read A) (x : A) → whole_value read ≡ Some x → read ≡ Some (x, [])
whole_of None x is = absurd (cc)
whole_of (Some (y, [])) x is = ap (λ o. option_map (λ z. (z, [])) o) is
whole_of {A} (Some (y, c ∷ rest)) x is =
    let more : whole_value (Some (y, c ∷ rest)) ≡ None = rw (ne_eqb (length (c ∷ rest)) 0 (omega arith)) refl in
    let same : None ≡ Some x = sym more ∙ is in
    absurd (cc)

dotted_whole : (text octets : List ℕ) → IsDotted text octets → whole_value (read_ipv4 text) ≡ Some octets
dotted_whole text octets is =
    ap (λ t. whole_value (read_ipv4 t)) (sym (append-nil text)) ∙ ap whole_value (read_ipv4_complete text octets [] is (lit≤ tt))

colons_whole : (text segments : List ℕ) → IsColonHex text segments → whole_value (read_ipv6 text) ≡ Some segments
colons_whole text segments is =
    ap (λ t. whole_value (read_ipv6 t)) (sym (append-nil text)) ∙ ap whole_value (read_ipv6_complete text segments [] is EndsGroups-nil)

whole_dotted : (text octets : List ℕ) → whole_value (read_ipv4 text) ≡ Some octets → IsDotted text octets
whole_dotted text octets is =
    let (front, split, spells) = read_ipv4_sound text octets [] (whole_of (read_ipv4 text) octets is) in
    subst (λ t. IsDotted t octets) (sym (split ∙ append-nil front)) spells

whole_colons : (text segments : List ℕ) → whole_value (read_ipv6 text) ≡ Some segments → IsColonHex text segments
whole_colons text segments is =
    let (front, split, spells) = read_ipv6_sound text segments [] (whole_of (read_ipv6 text) segments is) in
    subst (λ t. IsColonHex t segments) (sym (split ∙ append-nil front)) spells

-- of both families
abbrev first_of : Option (List ℕ) → Option (List ℕ) → Option IpAddr
first_of four six = option_or (option_map (λ octets. V4 (record { octets = octets })) four) (option_map (λ segments. V6 (record { segments = segments })) six)

no_dotted : (text segments : List ℕ) → IsColonHex text segments → whole_value (read_ipv4 text) ≡ None
no_dotted text segments is = by (whole_value (read_ipv4 text)) refl
  where
    by : (read : Option (List ℕ)) → whole_value (read_ipv4 text) ≡ read → read ≡ None
    by None so = refl
    by (Some octets) so = absurd (IsDotted-not_colon_hex text octets segments (whole_dotted text octets so) is)

pub address_of-written : (text : List ℕ) (address : IpAddr) → IsIpText text address → address_of text ≡ Some address
address_of-written text (V4 a) is = ap (λ four. first_of four (whole_value (read_ipv6 text))) (dotted_whole text a.octets is)
address_of-written text (V6 a) is =
    ap (λ four. first_of four (whole_value (read_ipv6 text))) (no_dotted text a.segments is) ∙ ap (first_of None) (colons_whole text a.segments is)

pub written-address_of : (text : List ℕ) (address : IpAddr) → address_of text ≡ Some address → IsIpText text address
written-address_of text address is = by (whole_value (read_ipv4 text)) (whole_value (read_ipv6 text)) refl refl is
  where
    by : (four six : Option (List ℕ)) → whole_value (read_ipv4 text) ≡ four → whole_value (read_ipv6 text) ≡ six → first_of four six ≡ Some address → IsIpText text address
    by (Some octets) six dotted colons so =
        let same : V4 (record { octets = octets }) ≡ address = cc in
        subst (IsIpText text) same (whole_dotted text octets dotted)
    by None (Some segments) dotted colons so =
        let same : V6 (record { segments = segments }) ≡ address = cc in
        subst (IsIpText text) same (whole_colons text segments colons)
    by None None dotted colons so = absurd (cc)

-- what can't be parsed writes none
pub address_of-none : (text : List ℕ) → ((address : IpAddr) → IsIpText text address → ⊥) → address_of text ≡ None
address_of-none text none = by (address_of text) refl
  where
    by : (read : Option IpAddr) → address_of text ≡ read → read ≡ None
    by None is = refl
    by (Some address) is = absurd (none address (written-address_of text address is))
