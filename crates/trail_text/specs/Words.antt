-- The words of the audit text. Between two words of a line stands one space (32), and each line ends with a line feed (10).
use Rattle.std.specs.Prelude.{ℕ, List, [], ◌∷◌, ◌++◌, Bool, true, false, codes, decimal}
use Rattle.suri_base.specs.declared.app.App.{App}
use Rattle.suri_base.specs.declared.app.App.TheVariants as app
use Rattle.suri_base.specs.declared.entry.BucketNote.{BucketNote}
use Rattle.suri_base.specs.declared.entry.BucketNote.TheVariants as bucket
use Rattle.suri_base.specs.declared.entry.PoolNote.{PoolNote}
use Rattle.suri_base.specs.declared.entry.PoolNote.TheVariants as pool
use Rattle.suri_base.specs.declared.entry.SegNote.{SegNote}
use Rattle.suri_base.specs.declared.entry.SegNote.TheVariants as seg
use Rattle.suri_base.specs.declared.stream.Offer.{Offer}
use Rattle.suri_base.specs.declared.stream.Offer.TheVariants as offer

abbrev pub Text : Type 0
Text = List ℕ

-- words behind a word, a space before each
abbrev pub behind : List Text → Text
behind [] = []
behind (word ∷ words) = 32 ∷ (word ++ behind words)

-- a line of words, without its line feed
abbrev pub spaced : List Text → Text
spaced [] = []
spaced (word ∷ words) = word ++ behind words

abbrev pub truth_word : Bool → Text
truth_word false = codes "0"
truth_word true = codes "1"

abbrev pub offer_word : Offer → Text
offer_word offer.InOrder = codes "inorder"
offer_word offer.Nothing = codes "nothing"
offer_word offer.NeedsSegment = codes "needs"
offer_word offer.Stopped = codes "stopped"

abbrev pub app_word : App → Text
app_word app.None = codes "none"
app_word app.Http = codes "http"
app_word app.Tls = codes "tls"
app_word app.Ssh = codes "ssh"
app_word app.Dns = codes "dns"

-- what a note of the pool of flow objects is in words
abbrev pub pool_words : PoolNote → List Text
pool_words (pool.Took frame) = codes "took" ∷ decimal frame ∷ []
pool_words (pool.Full frame out limit) = codes "full" ∷ decimal frame ∷ decimal out ∷ decimal limit ∷ []
pool_words (pool.Put run) = codes "put" ∷ decimal run ∷ []
pool_words (pool.Turn run frame) = codes "turn" ∷ decimal run ∷ decimal frame ∷ []
pool_words (pool.Mode on) = codes "mode" ∷ truth_word on ∷ []
pool_words (pool.Over round ended) = codes "over" ∷ decimal round ∷ truth_word ended ∷ []

-- what a note of the pool of segment nodes is in words
abbrev pub seg_words : SegNote → List Text
seg_words (seg.Took frame) = codes "took" ∷ decimal frame ∷ []
seg_words (seg.Full frame out limit) = codes "full" ∷ decimal frame ∷ decimal out ∷ decimal limit ∷ []
seg_words (seg.Gave count) = codes "gave" ∷ decimal count ∷ []

-- what a note of a bucket is in words
abbrev pub bucket_words : BucketNote → List Text
bucket_words (bucket.Found frame emergency seen run offer) =
    codes "found" ∷ decimal frame ∷ truth_word emergency ∷ decimal seen ∷ decimal run ∷ offer_word offer ∷ []
bucket_words (bucket.Missing frame emergency seen ended) =
    codes "missing" ∷ decimal frame ∷ truth_word emergency ∷ decimal seen ∷ decimal ended ∷ []
bucket_words (bucket.Made frame offer) = codes "made" ∷ decimal frame ∷ offer_word offer ∷ []
bucket_words (bucket.Refused frame) = codes "refused" ∷ decimal frame ∷ []
bucket_words (bucket.Stored frame) = codes "stored" ∷ decimal frame ∷ []
bucket_words (bucket.Stopped frame) = codes "stopped" ∷ decimal frame ∷ []
bucket_words (bucket.Closed frame app run freed ended) =
    codes "closed" ∷ decimal frame ∷ app_word app ∷ decimal run ∷ decimal freed ∷ truth_word ended ∷ []
bucket_words (bucket.Idle frame app) = codes "idle" ∷ decimal frame ∷ app_word app ∷ []
bucket_words (bucket.Victim frame run) = codes "victim" ∷ decimal frame ∷ decimal run ∷ []
bucket_words (bucket.AllInUse frame count) = codes "inuse" ∷ decimal frame ∷ decimal count ∷ []
bucket_words (bucket.Swept round emergency seen count) =
    codes "swept" ∷ decimal round ∷ truth_word emergency ∷ decimal seen ∷ decimal count ∷ []
bucket_words (bucket.Drained count) = codes "drained" ∷ decimal count ∷ []
