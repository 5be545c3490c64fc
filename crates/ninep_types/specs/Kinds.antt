-- The type bytes of messages.
use Rattle.std.specs.Prelude.{ℕ}

-- ---- messages to the server; there is no Terror

-- Tversion
abbrev pub tversion : ℕ
tversion = 100

-- Tauth
abbrev pub tauth : ℕ
tauth = 102

-- Tattach
abbrev pub tattach : ℕ
tattach = 104

-- Tflush
abbrev pub tflush : ℕ
tflush = 108

-- Twalk
abbrev pub twalk : ℕ
twalk = 110

-- Topen
abbrev pub topen : ℕ
topen = 112

-- Tcreate
abbrev pub tcreate : ℕ
tcreate = 114

-- Tread
abbrev pub tread : ℕ
tread = 116

-- Twrite
abbrev pub twrite : ℕ
twrite = 118

-- Tclunk
abbrev pub tclunk : ℕ
tclunk = 120

-- Tremove
abbrev pub tremove : ℕ
tremove = 122

-- Tstat
abbrev pub tstat : ℕ
tstat = 124

-- Twstat
abbrev pub twstat : ℕ
twstat = 126

-- ---- messages from the server

-- Rversion
abbrev pub rversion : ℕ
rversion = 101

-- Rauth
abbrev pub rauth : ℕ
rauth = 103

-- Rattach
abbrev pub rattach : ℕ
rattach = 105

-- Rerror
abbrev pub rerror : ℕ
rerror = 107

-- Rflush
abbrev pub rflush : ℕ
rflush = 109

-- Rwalk
abbrev pub rwalk : ℕ
rwalk = 111

-- Ropen
abbrev pub ropen : ℕ
ropen = 113

-- Rcreate
abbrev pub rcreate : ℕ
rcreate = 115

-- Rread
abbrev pub rread : ℕ
rread = 117

-- Rwrite
abbrev pub rwrite : ℕ
rwrite = 119

-- Rclunk
abbrev pub rclunk : ℕ
rclunk = 121

-- Rremove
abbrev pub rremove : ℕ
rremove = 123

-- Rstat
abbrev pub rstat : ℕ
rstat = 125

-- Rwstat
abbrev pub rwstat : ℕ
rwstat = 127
