-- Kinds of tokens.
use Rattle.std.specs.Prelude.{ℕ, Bool, true, false, List, [], ◌∷◌, ◌==◌, if◌then◌else◌}
use Rattle.cs_lang_token.specs.declared.token.Token.{Token}
use Rattle.cs_lang_token.specs.declared.kind.Kind.{Kind}
use Rattle.cs_lang_token.specs.declared.kind.Kind.TheVariants as kind

-- each kind has a number of its own
abbrev pub code : Kind → ℕ
code kind.Name = 0
code kind.Number = 1
code kind.Bytes = 2
code kind.Open = 3
code kind.Close = 4
code kind.OpenBlock = 5
code kind.CloseBlock = 6
code kind.OpenList = 7
code kind.CloseList = 8
code kind.Comma = 9
code kind.Semicolon = 10
code kind.Colon = 11
code kind.Dot = 12
code kind.Star = 13
code kind.Becomes = 14
code kind.Equal = 15
code kind.NotEqual = 16
code kind.Less = 17
code kind.LessOrEqual = 18
code kind.Greater = 19
code kind.GreaterOrEqual = 20
code kind.Plus = 21
code kind.Minus = 22
code kind.Slash = 23
code kind.Percent = 24
code kind.Type = 25
code kind.Method = 26
code kind.Consumes = 27
code kind.Reads = 28
code kind.Takes = 29
code kind.Creates = 30
code kind.Returns = 31
code kind.Procedure = 32
code kind.Check = 33
code kind.Let = 34
code kind.Set = 35
code kind.If = 36
code kind.Else = 37
code kind.For = 38
code kind.In = 39
code kind.To = 40
code kind.Make = 41
code kind.Call = 42
code kind.Answer = 43
code kind.And = 44
code kind.Or = 45
code kind.Not = 46
code kind.True = 47
code kind.False = 48
code kind.Empty = 49
code kind.IntKind = 50
code kind.BoolKind = 51
code kind.BytesKind = 52
code kind.Len = 53
code kind.Sha256 = 54
code kind.Concat = 55
code kind.Called = 56
code kind.DepInt = 57

-- whether one of these kinds has the number
abbrev pub among : List Kind → ℕ → Bool
among [] n = false
among (k ∷ ks) n = if n == code k then true else among ks n

-- whether a token is of one of these kinds
abbrev pub is : List Kind → Token → Bool
is ks t = among ks (code t.kind)
