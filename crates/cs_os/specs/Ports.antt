-- The addresses and ports of a deployment.
use Rattle.std.specs.Prelude.{◌≡◌, ℕ, ◌+◌, ◌*◌, ◌^◌, ◌==◌, nat_lt, List, [], ◌∷◌, Option, Some, None, if◌then◌else◌}
use Rattle.std.specs.declared.net.ip_addr.IpAddr.{IpAddr}
use Rattle.std.specs.declared.net.ip_addr.IpAddr.TheVariants.{V4, V6}
use Rattle.std.specs.declared.net.socket_addr.SocketAddr.{SocketAddr}
use Rattle.std.specs.Net.Addr.{ipv4_octets}
use Rattle.std.specs.Net.Socket.{socket_ip, socket_port}
use Rattle.cs_base.specs.NodeId.{same_name}
use Rattle.cs_base.specs.declared.node_id.NodeId.{NodeId}
use Rattle.cs_base.specs.declared.node_id.TheConstants.{CLIENT_SHARD}

-- nodes by shard and index, 16 to a shard, and then the clients
abbrev pub port_place : NodeId → ℕ
port_place name = if name.shard == CLIENT_SHARD then 256 + name.index else 16 * name.shard + name.index

-- the port above the base port, where it is one
abbrev pub port_of : ℕ → NodeId → Option ℕ
port_of base_port name =
    if nat_lt (base_port + port_place name) (2 ^ 16) then Some (base_port + port_place name) else None

-- 127.0.0.1, where this computer alone listens and is heard
abbrev pub IsLoopback : IpAddr → Type 0
IsLoopback (V4 ip) = ipv4_octets ip ≡ 127 ∷ 0 ∷ 0 ∷ 1 ∷ []
IsLoopback (V6 ip) = ⊥

-- the address that a name was told to have, by the first host of that name
abbrev pub told_address : List (NodeId × IpAddr) → NodeId → Option IpAddr
told_address [] name = None
told_address (host ∷ hosts) name = if same_name host.0 name then Some host.1 else told_address hosts name

-- just that; or, where none was told, the loopback
abbrev pub IsIpOf : Option IpAddr → IpAddr → Type 0
IsIpOf (Some told) ip = ip ≡ told
IsIpOf None ip = IsLoopback ip

-- the address of a name of a deployment
pub record IsAddressOf (hosts : List (NodeId × IpAddr)) (base_port : ℕ) (name : NodeId) (address : SocketAddr)
    : Type 0 where
  pub ip : IsIpOf (told_address hosts name) (socket_ip address)
  pub port : port_of base_port name ≡ Some (socket_port address)
