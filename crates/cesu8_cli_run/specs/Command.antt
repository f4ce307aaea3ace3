-- The words of a command.
use Rattle.std.specs.Prelude.{◌≡◌, ℕ, List, [], ◌∷◌, map, codes}
use Rattle.std.specs.Borrow.{Bor}
use Rattle.simd_cesu8.specs.Encoding.{Flavor}
use Rattle.simd_cesu8.specs.Encoding as encodings
use Rattle.cesu8_cli_run.specs.declared.command.Command.{Command}
use Rattle.cesu8_cli_run.specs.declared.command.Command.TheVariants.{Encode, Needs, Decode, DecodeStrict, Lossy, LossyStrict, JavaWrite, JavaRead}
use Rattle.cesu8_cli_run.specs.declared.command.FlavorWord.{FlavorWord}
use Rattle.cesu8_cli_run.specs.declared.command.FlavorWord.TheVariants as words

-- The flavor that the second word names.
abbrev pub flavor_of : FlavorWord → Flavor
flavor_of words.Cesu8 = encodings.Cesu8
flavor_of words.Mutf8 = encodings.Mutf8

-- The second word, and both words of a command.
abbrev pub word_of : FlavorWord → List ℕ
word_of words.Cesu8 = codes "cesu8"
word_of words.Mutf8 = codes "mutf8"

abbrev pub words_of : Command → List (List ℕ)
words_of (Encode flavor) = codes "encode" ∷ word_of flavor ∷ []
words_of (Needs flavor) = codes "needs" ∷ word_of flavor ∷ []
words_of (Decode flavor) = codes "decode" ∷ word_of flavor ∷ []
words_of (DecodeStrict flavor) = codes "decode-strict" ∷ word_of flavor ∷ []
words_of (Lossy flavor) = codes "lossy" ∷ word_of flavor ∷ []
words_of (LossyStrict flavor) = codes "lossy-strict" ∷ word_of flavor ∷ []
words_of JavaWrite = codes "java-write" ∷ codes "mutf8" ∷ []
words_of JavaRead = codes "java-read" ∷ codes "mutf8" ∷ []

abbrev pub AreWordsOf : Command → List (Bor (List ℕ)) → Type 0
AreWordsOf command words = map (λ word. word.now) words ≡ words_of command

-- The arguments are those of no command.
abbrev pub AreNoCommand : List (Bor (List ℕ)) → Type 0
AreNoCommand words = (command : Command) → ¬ (AreWordsOf command words)
